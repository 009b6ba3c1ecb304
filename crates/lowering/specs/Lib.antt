pub mod Laws
pub mod Lowered
pub mod Operations
pub mod Plan
pub mod Tasks
pub mod Trees
