pub mod Scan
pub mod Costs
