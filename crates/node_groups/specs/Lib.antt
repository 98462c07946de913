pub mod Joined
pub mod Groups
pub mod Laws
pub mod inside
