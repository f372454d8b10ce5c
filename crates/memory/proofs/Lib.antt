pub mod Accepted
pub mod Settings
