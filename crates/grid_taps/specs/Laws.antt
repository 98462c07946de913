-- Lemmas that crates above use.
pub mod Ordered
pub mod Unique
