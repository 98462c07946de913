pub mod Command
pub mod Option
pub mod Table
pub mod ListWords
pub mod Number
pub mod Value
