pub mod Setting
pub mod inside
pub mod Words
