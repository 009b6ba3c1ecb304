pub mod Counts
pub mod Undefs
pub mod Users
