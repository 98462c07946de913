pub mod Names
pub mod Texts
pub mod Nets
pub mod Whole
pub mod Fitting
pub mod ViaNames
pub mod WireTexts
pub mod WireFits
