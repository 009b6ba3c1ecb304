pub mod Binary
pub mod Ordering
pub mod Steps
