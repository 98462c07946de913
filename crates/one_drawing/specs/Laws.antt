-- Lemmas that crates above use.
pub mod Listed
pub mod Ordered
pub mod Pieced
pub mod Planned
pub mod Shaped
pub mod Stacked
pub mod Touched
