pub mod Evaluation
pub mod Kept
pub mod Substitution
pub mod Over
pub mod Standing
