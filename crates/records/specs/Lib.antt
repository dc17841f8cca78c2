-- One line of the log as text, and the record that the reader makes of it. Read from the top: what is kept of a record, what a record of the code says, where the
-- parts of a line end, lists, the kinds of record, the letter in front; then that the shortened record is answered as the whole one, and that a record and its text
-- settle each other.
pub mod Short
pub mod Kept
pub mod Said
pub mod Ends
pub mod Fields
pub mod Lists
pub mod Writes
pub mod Kinds
pub mod Letters
pub mod ShortAnswers
pub mod Joined
pub mod RecordTexts
pub mod ListTexts
pub mod RecordReadBack
pub mod RecordOneText
