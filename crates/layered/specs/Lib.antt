pub mod Layers
pub mod Chosen
pub mod Leaves
pub mod Piles
