pub mod Table
pub mod Bits
pub mod Written
pub mod Following
