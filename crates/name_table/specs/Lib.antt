pub mod ByteOrder
pub mod Numbering
pub mod Laws
pub mod inside
