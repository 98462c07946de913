pub mod Place
pub mod inside
