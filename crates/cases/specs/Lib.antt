pub mod Lines
pub mod Unread
pub mod Wording
pub mod Counts
