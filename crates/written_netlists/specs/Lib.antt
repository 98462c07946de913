pub mod Fits
pub mod Alone
