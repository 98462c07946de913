-- What only private contracts, loops and proofs speak of.
pub mod Adding
pub mod Least
pub mod Sites
