-- What serves proofs alone: no contract of a call that users make rests on it.
pub mod Held
pub mod Lacks
pub mod LiveSources
