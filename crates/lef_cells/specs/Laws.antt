-- Lemmas that crates above use.
pub mod Joining
pub mod Shape
