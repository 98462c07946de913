pub mod First
pub mod Vias
pub mod Segments
pub mod Limits
pub mod inside
