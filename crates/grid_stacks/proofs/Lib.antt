pub mod RunSteps
pub mod Ordered
pub mod AllSteps
pub mod Barred
pub mod Bridge
pub mod Refused
pub mod Indexed
