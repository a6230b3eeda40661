-- What serves proofs alone: no contract of a call that users make rests on it.
pub mod Fallen
pub mod GivenUpdate
pub mod Logged
pub mod Restored
pub mod Retaken
pub mod SameRows
pub mod Told
