-- What the steps of a join and of a vote leave, over plain lists.
pub mod Stores
