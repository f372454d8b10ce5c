pub mod Notes
pub mod Bounds
pub mod Converted
pub mod Trees
pub mod Labelling
