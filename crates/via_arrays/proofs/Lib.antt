pub mod Rows
pub mod Rules
pub mod Counted
pub mod Division
pub mod Joined
pub mod Single
pub mod Whole
