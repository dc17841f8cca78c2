-- Laws of the kept rows: the place of a key among a row's writes, reading from the newest version on, and folding from the last write on.
pub mod Places
pub mod Reading
pub mod Folding
