pub mod Seats
pub mod Views
pub mod Calling
