pub mod Numbers
pub mod Orders
pub mod Wording
pub mod Words
pub mod Scripts
