pub mod Ended
pub mod OneList
pub mod FirstRows
