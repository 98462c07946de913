pub mod Ends
pub mod Tabled
pub mod Limited
pub mod One
