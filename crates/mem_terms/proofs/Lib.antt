pub mod Bits
pub mod Eaches
pub mod GivenTerms
pub mod Later
pub mod Made
pub mod Naming
pub mod SymBytes
pub mod SymValues
