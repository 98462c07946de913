pub mod Missed
pub mod Found
