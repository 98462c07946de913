pub mod Sort
pub mod Section
pub mod Unit
pub mod Standing
pub mod Pattern
