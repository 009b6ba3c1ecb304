pub mod Tables
pub mod Found
pub mod Standing
pub mod Agreeing
