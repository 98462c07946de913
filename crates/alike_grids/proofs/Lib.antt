pub mod Stacks
pub mod Tapped
pub mod Networks
pub mod Regions
