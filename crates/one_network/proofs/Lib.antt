pub mod Limited
pub mod Tapping
