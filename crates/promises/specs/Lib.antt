-- What is promised of a log's bytes, and what it is proved by. Promises.antt is the page to read; Callers and LogBytes have the words in which it speaks.
pub mod Callers
pub mod AnyCutting
pub mod Progress
pub mod LogBytes
pub mod LogEvents
pub mod ShortTables
pub mod LogExcess
pub mod OneLine
pub mod OutLines
pub mod LineCounts
pub mod LineMeanings
pub mod Promises
pub mod RealBytes
