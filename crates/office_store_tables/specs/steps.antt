-- What serves proofs alone: no contract of a call that users make rests on it.
pub mod Finishing
pub mod LayoutSteps
pub mod CreatingSteps
pub mod Reading
pub use Rattle.office_store_testing_tables.specs.steps.Tables
