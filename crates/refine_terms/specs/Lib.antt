pub mod Deciding
pub mod Numbers
pub mod Groups
pub mod Alike
