-- What serves proofs alone: no contract of a call that users make rests on it.
pub mod LineFronts
pub mod ReaderSteps
pub mod RelationAnswers
pub mod ClauseSteps
pub mod BinaryAnswers
pub mod BinarySteps
