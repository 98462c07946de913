-- Lemmas that crates above use.
pub mod Building
pub mod Naming
pub mod Refusing
pub mod Same
pub mod Sorts
