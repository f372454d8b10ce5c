pub mod Firsts
pub mod Around
pub mod Refusals
pub mod Headers
