pub mod Fitting
pub mod Around
pub mod Programs
