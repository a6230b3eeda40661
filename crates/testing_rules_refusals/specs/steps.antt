-- What serves proofs alone: no contract of a call that users make rests on it.
pub mod Refusals
pub mod Standing
pub mod Arrivals
pub mod Shown
pub mod LineNumbers
