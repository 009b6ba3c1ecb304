pub mod Questions
pub mod Asks
pub mod Cones
