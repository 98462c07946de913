pub mod Growing
pub mod Indexed
pub mod Touching
pub mod Answered
