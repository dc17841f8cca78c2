-- What the writers of answers keep, that what they write from an operation's answer is the text of the rules' step, and how long that gets.
pub mod Lines
pub mod Reads
pub mod Finishes
pub mod Named
pub mod Texts
pub mod Operations
pub mod Lengths
