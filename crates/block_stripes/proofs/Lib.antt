pub mod Boxes
pub mod Passed
pub mod Joined
pub mod Many
pub mod Flat
pub mod Fits
pub mod StrapsKeep
pub mod RingsKeep
