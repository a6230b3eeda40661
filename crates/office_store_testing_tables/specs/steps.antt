-- What serves proofs alone: no contract of a call that users make rests on it.
pub mod Texts
pub mod Nearby
pub mod Tables
pub mod TableSteps
pub mod ChangedTables
pub mod EntrySteps
pub mod TableContent
pub mod ReadingSteps
pub mod FactSteps
pub mod Differences
pub mod Loaded
pub mod Faults
pub mod StepsWithin
pub mod Reads
