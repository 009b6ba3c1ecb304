pub mod Words
pub mod Walked
pub mod Seen
