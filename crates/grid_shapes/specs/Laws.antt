-- Lemmas that crates above use.
pub mod PiecesKeep
pub mod Plain
