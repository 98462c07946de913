pub mod Extracted
pub mod Checked
