pub mod Voltages
pub mod Rows
pub mod Law
pub mod Texts
pub mod Lines
pub mod ReadBack
