pub mod SameModule
pub mod ReadBack
