pub mod LiveSlots
pub mod SourceSlots
pub mod Unmet
