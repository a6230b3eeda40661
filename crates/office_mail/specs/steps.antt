-- What serves proofs alone: no contract of a call that users make rests on it.
pub mod Answers
pub mod ReadSteps
pub mod BuildSteps
pub mod BagReads
pub mod Line
pub mod Step
