pub mod Optional
