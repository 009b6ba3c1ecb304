pub mod Pieces
pub mod Instructions
pub mod ModuleText
pub mod Made
