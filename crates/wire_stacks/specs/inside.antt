-- What only private contracts, loops and proofs speak of.
pub mod Halves
pub mod Made
pub mod Ends
