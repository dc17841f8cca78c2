pub mod Faces
pub mod Left
pub mod OneAnswer
pub mod Saying
pub mod Meanings
pub mod Refusals
pub mod Pieces
pub mod Logs
