pub mod Names
pub mod Marks
pub mod Items
pub mod Stops
pub mod Pieces
pub mod Joined
