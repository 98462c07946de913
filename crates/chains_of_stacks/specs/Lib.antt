pub mod Stacked
pub mod Laws
