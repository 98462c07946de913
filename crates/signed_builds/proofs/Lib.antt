pub mod Records
pub mod Signed
