-- What serves proofs alone: no contract of a call that users make rests on it.
pub mod Blocks
pub mod ElementShifts
pub mod Entries
pub mod HintOrder
pub mod Shifts
pub mod Slots
pub mod SourceFilter
