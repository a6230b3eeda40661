-- What serves proofs alone: no contract of a call that users make rests on it.
pub mod Standing
pub mod AfterMoves
pub mod ArchRows
pub mod Changes
pub mod JudgedRows
pub mod Pools
pub mod PresentSteps
pub mod Trials
pub mod Tried
