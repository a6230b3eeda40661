pub mod Order
pub mod Certificate
pub mod steps
