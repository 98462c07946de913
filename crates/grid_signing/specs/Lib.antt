pub mod Basis
pub mod Checked
pub mod Refusal
pub mod Signing
pub mod Solutions
pub mod inside
