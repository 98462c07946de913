-- Lemmas that crates above use.
pub mod Texts
pub mod Causes
