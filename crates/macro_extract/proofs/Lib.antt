pub mod OnPins
pub mod Keeps
