-- Generic laws, written once: of tests, of lists and their members, of parts and lists laid in, of sets as bits. Nothing here is about the ledger.
pub mod Tests
pub mod Members
pub mod Each
pub mod Inserts
pub mod Bits
pub mod Partitions
pub mod Cuts
pub mod Tabs
pub mod Options
pub mod Walks
