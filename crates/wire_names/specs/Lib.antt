pub mod Names
pub mod Nets
pub mod Wiring
pub mod Keeping
pub mod inside
