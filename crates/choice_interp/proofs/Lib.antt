pub mod Common
mod Defined
pub mod Endings
pub mod SmallSizes
pub mod Ways
