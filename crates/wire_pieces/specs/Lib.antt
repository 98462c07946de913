pub mod Pieces
pub mod Centre
pub mod inside
