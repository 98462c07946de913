pub mod Lengths
pub mod Cuts
pub mod Pairs
pub mod Stacks
