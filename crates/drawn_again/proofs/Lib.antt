pub mod Members
pub mod Rails
pub mod Arrays
pub mod Nets
pub mod Ends
pub mod Order
pub mod Whole
