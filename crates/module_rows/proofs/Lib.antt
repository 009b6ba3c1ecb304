pub mod Common
pub mod Runnable
pub mod Searches
pub mod Answered
pub mod Pairs
pub mod OwnAnswers
