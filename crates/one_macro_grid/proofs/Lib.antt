pub mod Tapped
pub mod Sorted
pub mod Merged
pub mod Shaped
pub mod Pieced
pub mod Stacked
pub mod Refused
