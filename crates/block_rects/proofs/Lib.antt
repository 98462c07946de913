pub mod Bounds
pub mod Extents
pub mod Steps
pub mod Keeping
