-- What serves proofs alone: no contract of a call that users make rests on it.
pub mod Closed
pub mod Claims
pub mod Work
pub mod Index
pub mod Ground
pub mod Progress
pub mod Among
pub mod Tracked
pub mod Dependents
pub mod Settling
pub mod Suite
pub mod Trials
pub mod Noting
