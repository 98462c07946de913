pub mod Site
pub mod Shapes
pub mod Drawing
pub mod inside
pub mod Laws
