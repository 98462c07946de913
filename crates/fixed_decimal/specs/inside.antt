pub mod Kept
pub mod Split
pub mod Rounded
pub mod Short
