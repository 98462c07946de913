pub mod Number
pub mod Unit
pub mod Question
pub mod Fault
pub mod Record
pub mod Format
pub mod Limits
pub mod inside
