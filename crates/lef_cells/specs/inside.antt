pub mod Held
pub mod Value
