pub mod Description
pub mod Accesses
pub mod Laws
