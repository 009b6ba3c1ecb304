pub mod Renaming
pub mod Allocation
pub mod PhiReads
pub mod Slotted
pub mod Laws
pub mod StandIn
