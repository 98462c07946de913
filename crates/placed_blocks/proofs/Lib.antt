pub mod Steps
pub mod Macros
pub mod Outlines
pub mod Halos
pub mod Keeping
pub mod Unique
