-- What serves proofs alone: no contract of a call that users make rests on it.
pub mod Chosen
pub mod Counting
pub mod Last
pub mod Outcome
pub mod Taking
pub mod Walk
pub mod Reported
pub mod Stands
