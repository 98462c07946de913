pub mod BareKeeps
pub mod Copied
pub mod Drawn
pub mod Halos
pub mod Merged
pub mod Passed
pub mod PiecesKeep
pub mod Refusals
