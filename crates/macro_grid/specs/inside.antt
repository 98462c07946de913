-- What only private contracts and proofs speak of.
pub mod Cutting
pub mod Drawn
pub mod Refused
