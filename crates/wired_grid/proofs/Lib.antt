pub mod Shapes
pub mod Cuts
mod Kept
pub mod Refused
pub mod Passed
pub mod Whole
