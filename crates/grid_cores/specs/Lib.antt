pub mod Core
pub mod Line
pub mod Owner
pub mod inside
