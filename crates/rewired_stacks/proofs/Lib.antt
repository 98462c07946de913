pub mod Levels
pub mod Apart
pub mod Again
