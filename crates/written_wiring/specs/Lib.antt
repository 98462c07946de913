pub mod Wiring
pub mod Fits
pub mod Wires
pub mod WiresFit
