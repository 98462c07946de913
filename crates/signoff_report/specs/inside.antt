pub mod Intervals
pub mod Lines
