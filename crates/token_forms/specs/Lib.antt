pub mod Brackets
pub mod Form
pub mod Spelling
pub mod Refusals
pub mod Plain
pub mod Answer
pub mod Spelled
pub mod Laws
