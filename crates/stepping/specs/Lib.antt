pub mod Inputs
pub mod Refusal
pub mod Stepped
pub mod inside
