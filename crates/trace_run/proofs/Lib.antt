mod Explained
mod Answering
mod Halting
