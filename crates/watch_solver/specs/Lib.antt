pub mod Codes
pub mod Decided
pub mod Free
pub mod Kept
pub mod Lists
pub mod Starts
pub mod Verdicts
pub mod Walks
