pub mod Blocks
pub mod Restored
pub mod steps
pub use Rattle.testing_rules_fact_order.specs.Uploads
