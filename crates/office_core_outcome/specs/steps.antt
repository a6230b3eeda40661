-- What serves proofs alone: no contract of a call that users make rests on it.
pub mod RuleSteps
pub mod RefusalSteps
pub mod TrialSteps
pub mod Settled
pub mod Snapshot
