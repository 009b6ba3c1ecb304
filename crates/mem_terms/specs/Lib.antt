pub mod Values
pub mod Inputs
pub mod Memory
pub mod Outcomes
