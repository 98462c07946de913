pub mod Shown
pub mod Limits
pub mod Judged
pub mod Counted
pub mod Report
pub mod Solved
pub mod inside
