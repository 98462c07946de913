pub mod Value
pub mod Held
