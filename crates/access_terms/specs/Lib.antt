pub mod Accesses
pub mod Joining
pub mod Offsets
pub mod Places
pub mod Spans
