pub mod Wording
pub mod Asked
