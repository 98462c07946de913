pub mod Units
pub mod Words
pub mod Nets
