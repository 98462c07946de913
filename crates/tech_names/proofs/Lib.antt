pub mod Fine
pub mod Apart
pub mod Types
pub mod Stated
pub mod Taken
pub mod Own
