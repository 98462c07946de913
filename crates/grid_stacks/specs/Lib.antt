pub mod Crossing
pub mod Stacking
pub mod inside
