pub mod Line
pub mod Via
pub mod Wiring
pub mod Written
pub mod Limits
pub mod inside
