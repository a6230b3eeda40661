-- What serves proofs alone: no contract of a call that users make rests on it.
pub mod Asked
pub mod AsksOnce
pub mod ChangesStore
pub mod Counting
pub mod GatherSteps
pub mod OnlyTakesMail
pub mod StaysOffice
