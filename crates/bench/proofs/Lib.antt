pub mod Fronts
pub mod Going
pub mod Longest
