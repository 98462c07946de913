pub mod Parts
pub mod Words
pub mod Cards
pub mod WordLemmas
pub mod Counts
