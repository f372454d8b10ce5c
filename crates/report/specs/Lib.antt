pub mod Bounds
pub mod Converted
pub mod Costs
pub mod Ran
