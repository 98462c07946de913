pub mod Netlist
pub mod Merged
pub mod Refusal
pub mod inside
