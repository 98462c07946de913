pub mod Standing
pub mod Likened
pub mod Counted
pub mod Sited
pub mod Restacked
pub mod Allowed
pub mod Refused
