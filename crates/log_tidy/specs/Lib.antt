pub mod Inclusion
pub mod Indexed
pub mod Linked
pub mod Marks
pub mod Numbers
pub mod Tidied
pub mod Trimmed
pub mod Used
