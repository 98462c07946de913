pub mod Line
pub mod Limits
pub mod Piece
pub mod Touch
pub mod Laws
pub mod inside
