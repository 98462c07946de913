pub mod Fitting
pub mod Nets
