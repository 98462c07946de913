pub mod Scale
pub mod Certifier
pub mod Halves
pub mod inside
