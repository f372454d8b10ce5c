pub mod Simulation
pub mod OneWay
pub mod Bounds
pub mod Results
