pub mod Asking
pub mod BagPart
pub mod Export
pub mod Listing
pub mod Mail
pub mod NextOrder
pub mod RunLines
pub mod steps
