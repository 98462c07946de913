pub mod Failing
pub mod Loose
pub mod Certified
pub mod Example
pub mod OneSided
pub mod inside
pub mod Laws
