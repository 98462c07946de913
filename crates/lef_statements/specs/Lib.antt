pub mod Word
pub mod Passing
pub mod First
pub mod Laws
