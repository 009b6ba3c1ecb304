pub mod Narrow
pub mod Rows
