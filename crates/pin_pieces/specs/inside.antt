-- What only private contracts, loops and proofs speak of.
pub mod Steps
