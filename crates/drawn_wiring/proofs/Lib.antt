pub mod Counting
pub mod Standing
pub mod Naming
pub mod Fitting
