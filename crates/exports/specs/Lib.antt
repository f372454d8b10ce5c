pub mod Came
pub mod Reading
pub mod Planning
pub mod Converting
pub mod Shapes
pub mod Running
pub mod CaseFile
