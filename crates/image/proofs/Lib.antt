pub mod Loops
pub mod Chunked
pub mod Trips
pub mod Answering
pub mod Accepting
pub mod Writing
pub mod Sounding
