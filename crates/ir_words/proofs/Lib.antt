pub mod Common
pub mod Digits
pub mod Widths
