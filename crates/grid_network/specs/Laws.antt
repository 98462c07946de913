-- Lemmas that crates above use.
pub mod Keys
pub mod Unique
pub mod OneList
