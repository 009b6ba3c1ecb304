pub mod Files
pub mod Stops
pub mod Reading
