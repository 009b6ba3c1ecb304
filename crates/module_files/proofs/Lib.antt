pub mod Pieces
pub mod TextStops
pub mod Writing
