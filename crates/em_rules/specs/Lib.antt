pub mod Verdict
pub mod Density
pub mod Limit
pub mod inside
