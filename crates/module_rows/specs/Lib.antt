pub mod Searching
pub mod Judging
