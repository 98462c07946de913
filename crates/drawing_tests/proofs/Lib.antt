pub mod Arrays
pub mod Near
pub mod Rings
