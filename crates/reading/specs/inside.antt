pub mod Left
pub mod Patterns
pub mod Machine
pub mod Engine
pub mod Items
