pub mod Images
pub mod Reading
pub mod Writing
