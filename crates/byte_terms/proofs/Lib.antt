pub mod Common
pub mod Bools
pub mod Naming
pub mod Digits
pub mod Parts
pub mod ByteLists
