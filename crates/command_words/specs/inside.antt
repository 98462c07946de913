pub mod Parsed
pub mod Split
