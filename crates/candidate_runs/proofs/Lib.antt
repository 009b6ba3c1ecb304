mod Common
pub mod Covering
pub mod Tried
mod Listed
