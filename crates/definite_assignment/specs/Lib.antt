pub mod Paths
pub mod Sets
pub mod Work
