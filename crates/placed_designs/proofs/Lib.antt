pub mod Asked
pub mod Formats
