pub mod Bridge
pub mod Commands
pub mod Counted
pub mod Each
pub mod Spelling
pub mod Taken
pub mod Truth
