pub mod Value
pub mod Held
pub mod Stack
pub mod Looks
