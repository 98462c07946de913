pub mod Found
pub mod Indexed
pub mod Shared
pub mod Owned
pub mod TapSteps
pub mod TapAnswer
pub mod Junctions
pub mod Middles
