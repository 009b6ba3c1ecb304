pub mod Format
pub mod Words
pub mod FirstFault
pub mod Following
pub mod OneReading
