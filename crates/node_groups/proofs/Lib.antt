pub mod Chains
pub mod Steps
pub mod Links
pub mod Numbers
pub mod Whole
