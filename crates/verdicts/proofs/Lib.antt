pub mod Meaning
pub mod One
pub mod Placed
pub mod Sampled
