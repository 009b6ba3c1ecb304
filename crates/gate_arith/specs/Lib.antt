pub mod Numbers
pub mod Bitwise
pub mod Adder
pub mod Moves
pub mod Division
