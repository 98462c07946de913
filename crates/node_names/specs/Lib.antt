pub mod Folding
pub mod inside
