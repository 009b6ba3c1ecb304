pub mod Operands
pub mod Items
pub mod Reasons
pub mod Causes
pub mod Trace
pub mod Parts
