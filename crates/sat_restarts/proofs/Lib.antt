pub mod Common
pub mod Models
pub mod Ranges
pub mod Settling
