pub mod Front
pub mod Splitting
