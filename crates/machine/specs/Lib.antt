pub mod Words
pub mod Choices
pub mod States
pub mod Machine
pub mod Nested
pub mod Most
pub mod Fits
