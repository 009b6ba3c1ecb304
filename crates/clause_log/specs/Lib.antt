pub mod Chain
pub mod Marking
pub mod Members
pub mod Placing
pub mod Refutation
pub mod Reported
pub mod Resolution
pub mod Verdicts
