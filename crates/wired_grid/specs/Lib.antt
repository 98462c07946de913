pub mod Errors
pub mod Wired
pub mod inside
