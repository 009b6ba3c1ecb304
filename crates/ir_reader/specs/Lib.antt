pub mod StopReason
pub mod Functions
pub mod Module
pub mod Judgeable
pub mod Laws
pub mod Answer
pub mod Beside
