pub mod DefinerLemmas
pub mod UseLemmas
