pub mod Values
pub mod Cone
pub mod Numbering
pub mod Facts
pub mod Encoding
