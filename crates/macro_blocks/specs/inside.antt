pub mod Number
pub mod Value
pub mod Held
pub mod Fault
