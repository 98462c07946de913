pub mod Found
pub mod Ordered
pub mod Steps
pub mod Kept
