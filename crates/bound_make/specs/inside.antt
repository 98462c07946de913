pub mod Half
pub mod Made
pub mod Mirror
pub mod Moving
pub mod Raising
