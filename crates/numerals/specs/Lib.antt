-- What the readers and writers of numbers keep, and the laws of parts and numbers as text that others cite.
pub mod Parts
pub mod Decimal
pub mod Reading
pub mod Texts
pub mod Amounts
pub mod Writing
pub mod Answers
