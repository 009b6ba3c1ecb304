pub mod Numbers
pub mod Words
pub mod Reasons
pub mod Spelling
