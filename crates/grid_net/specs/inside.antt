pub mod Around
pub mod Circuit
pub mod Flows
pub mod Level
