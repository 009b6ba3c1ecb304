pub mod Blocks
pub mod Bytes
pub mod Accesses
pub mod Offsets
pub mod Laws
