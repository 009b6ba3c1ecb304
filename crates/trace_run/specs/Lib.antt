pub mod Named
pub mod Explanations
pub mod Reported
pub mod Halts
pub mod Requests
