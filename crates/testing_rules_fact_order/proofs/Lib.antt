pub mod Netting
pub mod PlacedAt
