-- What only private contracts, loops and proofs speak of.
pub mod Index
pub mod Rails
pub mod Standing
pub mod Steps
pub mod Tapping
