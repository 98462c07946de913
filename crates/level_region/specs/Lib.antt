pub mod Block
pub mod Cuts
pub mod Lends
