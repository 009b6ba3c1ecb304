pub mod Traces
pub mod Differences
