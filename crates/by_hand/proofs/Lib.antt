pub mod Reckoned
pub mod Beyond
pub mod Sources
pub mod Ifs
pub mod Accesses
pub mod Repeats
pub mod SmallImages
pub mod ByHand
