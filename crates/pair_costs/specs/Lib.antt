pub mod Small
pub mod Trees
