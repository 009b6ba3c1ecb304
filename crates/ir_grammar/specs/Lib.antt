pub mod Classes
pub mod Instructions
pub mod Grammar
