-- What serves proofs alone: no contract of a call that users make rests on it.
pub mod Ready
