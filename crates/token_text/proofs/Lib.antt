pub mod Clean
pub mod Longest
pub mod Lexed
