pub mod Runs
pub mod Frontier
pub mod Common
