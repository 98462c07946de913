pub mod Pins
pub mod inside
