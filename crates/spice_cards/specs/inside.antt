pub mod Keyword
pub mod Value
pub mod Held
pub mod Told
