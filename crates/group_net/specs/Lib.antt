pub mod Merging
pub mod Refusal
pub mod inside
