pub mod Steps
pub mod Existing
pub mod Unique
pub mod Lows
