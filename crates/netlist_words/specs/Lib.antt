pub mod Line
pub mod Letter
pub mod Title
pub mod Class
pub mod Text
pub mod CardWord
pub mod inside
