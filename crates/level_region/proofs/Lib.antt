pub mod Apart
pub mod Both
pub mod Hull
pub mod Lent
pub mod Written
