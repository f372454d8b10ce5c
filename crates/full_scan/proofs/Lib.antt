pub mod Turns
pub mod Rewrites
