pub mod Caps
pub mod Named
pub mod Written
