pub mod Line
pub mod Lines
