pub mod Names
pub mod Techs
