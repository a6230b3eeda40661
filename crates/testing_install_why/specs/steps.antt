-- What serves proofs alone: no contract of a call that users make rests on it.
pub mod Order
pub mod Chain
pub mod Taking
pub mod Steps
pub mod Providers
pub mod Certificate
pub mod Needed
pub mod Reaching
pub mod Checking
pub mod Woken
