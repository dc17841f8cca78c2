-- Soundness of the lent tables as tests on their words: of the counters, of one row, of the lists of rows; and what a sound pair of tables gives.
pub mod Walks
pub mod GoodRows
pub mod Counters
pub mod Whole
pub mod SoundTables
