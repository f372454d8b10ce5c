pub mod Nesting
pub mod Unmarking
