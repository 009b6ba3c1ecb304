pub mod Common
pub mod EdgeLemmas
pub mod PredecessorLemmas
pub mod Rounds
pub mod ValueLemmas
