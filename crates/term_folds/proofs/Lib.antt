pub mod Weights
pub mod Values
pub mod Substitutes
