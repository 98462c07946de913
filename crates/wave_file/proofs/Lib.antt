pub mod Numbers
pub mod Law
pub mod Apart
pub mod Lines
pub mod Taking
pub mod Kept
pub mod One
