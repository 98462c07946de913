-- Lemmas that crates above use.
pub mod Cut
pub mod Grids
pub mod Narrow
pub mod Sites
