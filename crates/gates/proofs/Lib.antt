pub mod Common
pub mod Stages
pub mod Folding
pub mod Clauses
pub mod FactLemmas
pub mod Marks
pub mod Named
pub mod Encoded
