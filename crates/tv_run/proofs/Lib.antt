pub mod Common
pub mod Soundness
pub mod Files
pub mod Stopping
pub mod OneReport
pub mod OneFault
pub mod InMemory
pub mod OneJob
pub mod Named
pub mod Certified
pub mod Verified
pub mod RowLines
pub mod RowHeads
pub mod RowsRead
pub mod Reporting
pub mod TextChecks
mod Logging
mod Sending
mod ReadAgain
