-- Lemmas that crates above use.
pub mod Amongst
pub mod Found
pub mod Geometry
pub mod Maximal
pub mod Orders
