pub mod Fed
pub mod Taps
pub mod Refusals
pub mod Keeping
pub mod inside
