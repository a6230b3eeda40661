-- What serves proofs alone: no contract of a call that users make rests on it.
pub mod Digits
pub mod Front
pub mod Split
pub mod SmallString
pub mod Order
pub mod Laws
pub mod Examples
