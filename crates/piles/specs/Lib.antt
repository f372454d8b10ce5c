pub mod Operations
pub mod Pairs
