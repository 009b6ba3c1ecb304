pub mod Accepted
pub mod Entries
pub mod OneOfEach
