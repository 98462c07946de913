pub mod Line
pub mod Via
pub mod Wiring
pub mod Nets
