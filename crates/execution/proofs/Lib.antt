pub mod ByPlaces
pub mod Counted
pub mod Grows
pub mod Whole
pub mod Onward
