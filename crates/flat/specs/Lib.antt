pub mod Flat
