pub mod Arrays
pub mod Stacks
pub mod Written
