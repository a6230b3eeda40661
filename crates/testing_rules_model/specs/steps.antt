-- What serves proofs alone: no contract of a call that users make rests on it.
pub mod Excuses
pub mod FactOrder
pub mod FactRows
pub mod KeptFacts
pub mod Grounds
pub mod InOrder
pub mod LentItems
pub mod Moves
pub mod Places
pub mod WithMessage
pub mod Unstable
pub mod Updates
pub mod SourceFilter
