pub mod Capacitors
pub mod Changes
pub mod StepNetwork
pub mod StepCertificate
pub mod SteppedSolution
pub mod Refusal
pub mod inside
