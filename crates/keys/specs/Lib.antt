-- Laws of ascending lists of keys, as the merge walks two of them, and the answers that the functions give.
pub mod Ascending
pub mod Limits
pub mod Merge
pub mod Answers
