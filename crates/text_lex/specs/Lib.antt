pub mod Bytes
pub mod Piece
pub mod Split
pub mod Name
pub mod inside
