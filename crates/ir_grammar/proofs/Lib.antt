pub mod Common
pub mod PlainGrammar
pub mod SmallArrays
pub mod Alignments
pub mod Closers
