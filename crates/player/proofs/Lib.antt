pub mod Entering
pub mod Playing
