pub mod Common
pub mod Asking
pub mod Building
pub mod Marking
pub mod Orders
