pub mod Forms
pub mod Wrapping
