-- What serves proofs alone: no contract of a call that users make rests on it.
pub mod Asked
pub mod Hosts
pub mod Reply
pub mod RequestSteps
pub mod Routes
