pub mod Cuts
pub mod Placed
pub mod Limits
pub mod inside
