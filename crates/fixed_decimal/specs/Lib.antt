pub mod Number
pub mod Spice
pub mod Short
pub mod Integer
pub mod Value
pub mod Printed
pub mod inside
