pub mod Common
mod Answered
pub mod Assigning
mod Decoded
mod Encoding
mod Excluding
mod Extending
mod Findings
mod Fitting
mod Knowing
mod Mentioned
mod Moved
mod Numbered
mod Ordered
mod SameTapes
mod Integers
mod Joining
mod Listing
mod Missed
mod Trying
mod Uncovering
