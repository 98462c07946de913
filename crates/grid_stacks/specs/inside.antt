-- What only private contracts, loops and proofs speak of.
pub mod Bar
pub mod Inner
pub mod Standing
