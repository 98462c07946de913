pub mod Sums
pub mod Places
pub mod Refusals
pub mod Tables
pub mod Built
pub mod Accepted
pub mod Levels
