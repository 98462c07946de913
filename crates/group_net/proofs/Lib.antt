pub mod Sums
pub mod Solutions
pub mod Limits
pub mod Refusals
pub mod Alone
pub mod Same
pub mod Conflicts
pub mod Unshorted
