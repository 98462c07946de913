pub mod Rounding
pub mod Laws
