pub mod Ordered
pub mod Stepped
mod Nothing
mod Kept
mod Refusals
