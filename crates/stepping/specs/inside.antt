pub mod Tested
pub mod Errors
