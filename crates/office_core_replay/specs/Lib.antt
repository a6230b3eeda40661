pub mod Blocks
pub mod Delivered
pub mod Losses
pub mod Output
pub mod ReadsBag
pub mod Replay
pub mod steps
