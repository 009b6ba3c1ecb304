pub mod Parts
pub mod Checks
pub mod Laws
