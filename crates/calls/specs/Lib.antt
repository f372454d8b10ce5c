pub mod Benches
pub mod Bytes
pub mod Calls
