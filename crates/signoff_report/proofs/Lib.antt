pub mod Short
pub mod Nets
pub mod Pieces
pub mod Lines
pub mod Tallies
pub mod Solved
