pub mod Drawn
pub mod Rect
pub mod Run
pub mod inside
