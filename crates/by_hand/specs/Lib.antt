pub mod Routines
pub mod SmallImages
pub mod ByHand
