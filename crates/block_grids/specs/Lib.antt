pub mod Choice
pub mod Blocks
pub mod Halo
