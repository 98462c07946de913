-- Lemmas that crates above use.
pub mod Among
pub mod Permuted
