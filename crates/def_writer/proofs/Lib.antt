pub mod LineLemmas
pub mod TextLemmas
pub mod WiringLemmas
pub mod NetLemmas
pub mod ViaLemmas
