pub mod Spelling
pub mod Walking
pub mod Verified
