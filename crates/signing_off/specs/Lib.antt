pub mod Inputs
pub mod Kinds
pub mod Reading
pub mod Refusal
pub mod Signing
pub mod inside
