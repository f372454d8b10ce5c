pub mod Names
pub mod Depths
