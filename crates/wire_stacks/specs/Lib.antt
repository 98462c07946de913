pub mod Vias
pub mod Crossing
pub mod Stacks
pub mod inside
