pub mod CountLemmas
pub mod TableLemmas
pub mod UseLemmas
pub mod UserLemmas
