pub mod Items
pub mod Plan
pub mod Sync
pub mod steps
