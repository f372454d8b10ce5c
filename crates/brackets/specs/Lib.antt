pub mod Nesting
pub mod Labelled
