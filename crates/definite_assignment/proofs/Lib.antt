pub mod Common
pub mod Columns
pub mod Cuts
pub mod Leaving
pub mod Names
pub mod Order
pub mod Search
pub mod Spread
