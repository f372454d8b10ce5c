pub mod Steps
pub mod Going
