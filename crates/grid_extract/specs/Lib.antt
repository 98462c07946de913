pub mod Extraction
pub mod First
pub mod Laws
