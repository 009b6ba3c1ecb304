pub mod EntryName
pub mod NextNumber
pub mod Places
pub mod Numbering
pub mod Mentions
pub mod Laws
pub mod Answer
