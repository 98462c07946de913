pub mod Extension
pub mod Loads
pub mod Passed
pub mod Step
