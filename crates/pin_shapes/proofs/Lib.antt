pub mod Metal
pub mod Keeping
