pub mod Laws
pub mod Naming
pub mod Pads
pub mod Rails
pub mod Taps
pub mod Tables
pub mod Refusals
pub mod inside
