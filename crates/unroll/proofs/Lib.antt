pub mod Copies
pub mod Forward
pub mod Leaving
pub mod Walking
