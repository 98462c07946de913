pub mod Blocks
pub mod Built
pub mod Kinds
pub mod Refusal
pub mod Words
pub mod inside
