pub mod Common
pub mod Texts
pub mod Accepted
pub mod Drawing
