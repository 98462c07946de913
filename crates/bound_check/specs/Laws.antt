-- What the crates above need of the definitions, each law with its proof.
pub mod Adding
