-- What the crates above need of the definitions, each law with its proof.
pub mod Search
pub mod Sums
pub mod Flows
pub mod Pads
pub mod Loads
pub mod Mirror
