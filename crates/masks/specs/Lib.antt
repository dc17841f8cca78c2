-- Laws of masks: what a set names after each operation on bits, and what an empty mask says of every partition.
pub mod Operations
pub mod Sets
pub mod Empty
pub mod Votes
pub mod Ballots
