pub mod Answers
pub mod Given
pub mod Tried
