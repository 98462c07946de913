pub mod Entries
pub mod Name
