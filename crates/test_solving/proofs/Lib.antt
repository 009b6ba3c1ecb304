pub mod Alone
pub mod Only
