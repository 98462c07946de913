pub mod Sort
pub mod Section
pub mod Rule
pub mod Fault
pub mod Record
pub mod Format
pub mod inside
