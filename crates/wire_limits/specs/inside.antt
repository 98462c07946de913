-- What only private contracts, loops and proofs speak of.
pub mod Used
pub mod Segments
pub mod Counts
