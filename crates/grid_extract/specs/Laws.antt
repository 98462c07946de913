-- Lemmas that crates above use.
pub mod Agreeing
pub mod Answers
pub mod OnPieces
