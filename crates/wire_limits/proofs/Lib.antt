pub mod Marks
pub mod Search
pub mod Stages
pub mod Refused
