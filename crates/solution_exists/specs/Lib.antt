pub mod Existence
pub mod Branches
pub mod Shorted
pub mod Laws
