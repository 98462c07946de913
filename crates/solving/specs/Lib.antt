pub mod Signed
pub mod Refusal
pub mod inside
