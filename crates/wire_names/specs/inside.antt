-- What only private contracts, loops and proofs speak of.
pub mod Tables
pub mod Pair
pub mod Placed
