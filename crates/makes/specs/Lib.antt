pub mod Makes
pub mod Calls
pub mod Begun
pub mod Wording
