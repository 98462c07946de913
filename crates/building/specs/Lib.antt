pub mod Inputs
pub mod Kinds
pub mod Reading
pub mod Building
pub mod Checked
pub mod Refusal
pub mod Stages
pub mod Laws
