pub mod Tree
pub mod Trees
pub mod Faults
pub mod Variables
