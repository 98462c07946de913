-- Lemmas that crates above use.
pub mod Digits
pub mod Seen
