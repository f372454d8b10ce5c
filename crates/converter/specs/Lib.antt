pub mod Converting
pub mod Straight
pub mod Keeps
pub mod AnyMaker
pub mod Parts
