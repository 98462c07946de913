pub mod Check
pub mod Solve
pub mod Generate
pub mod Build
pub mod Step
pub mod Signoff
