mod Division
mod Wrapping
