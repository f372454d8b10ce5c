pub mod Answered
pub mod Piled
