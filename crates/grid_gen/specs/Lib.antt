pub mod Fixed
pub mod Part
pub mod Inputs
pub mod Design
pub mod Bias
