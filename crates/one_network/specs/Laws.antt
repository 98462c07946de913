-- Lemmas that crates above use.
pub mod Lists
pub mod Refused
pub mod Tapped
pub mod Whole
