pub mod Common
pub mod Whole
