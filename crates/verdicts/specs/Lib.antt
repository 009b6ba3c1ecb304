pub mod Covers
pub mod Laws
pub mod Pair
pub mod Shown
pub mod Trail
pub mod Weight
