pub mod Kinds
pub mod Rules
pub mod Passes
pub mod Sets
pub mod Plans
pub mod Theorems
