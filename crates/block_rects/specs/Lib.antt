pub mod Layers
pub mod Placed
pub mod Limits
pub mod inside
