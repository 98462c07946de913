pub mod Place
pub mod Named
pub mod Netlist
pub mod Written
pub mod inside
pub mod Caps
