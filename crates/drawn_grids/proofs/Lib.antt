pub mod Counted
pub mod Joined
pub mod Ordered
pub mod Worded
