-- What only private contracts, loops and proofs speak of.
pub mod Mixed
pub mod Places
