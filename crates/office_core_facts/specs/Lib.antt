pub mod Known
pub mod OfficeState
pub mod Outcome
pub mod Seen
pub mod State
pub mod steps
