pub mod Stages
pub mod Keeping
pub mod Same
pub mod Distinct
pub mod Below
pub mod Zips
pub mod Variables
