pub mod Plain
pub mod Logs
pub mod Promises
pub mod Kept
