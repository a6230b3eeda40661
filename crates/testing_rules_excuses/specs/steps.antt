-- What serves proofs alone: no contract of a call that users make rests on it.
pub mod BySource
pub mod LentUploads
pub mod OwnHints
pub mod SourceFilter
pub mod Origins
pub mod Said
pub mod Telling
