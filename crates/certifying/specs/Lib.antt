-- Laws of the walks over rows and of the place, and the answers that the functions give.
pub mod Places
pub mod Answers
pub mod Walks
