-- What only private contracts, loops and proofs speak of.
pub mod Blockages
pub mod Cutting
pub mod Sweep
