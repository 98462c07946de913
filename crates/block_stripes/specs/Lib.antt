pub mod Blocks
pub mod Straps
pub mod Rings
pub mod inside
