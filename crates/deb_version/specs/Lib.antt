pub mod Characters
pub mod Key
pub mod Text
pub mod SmallString
pub mod Order
pub mod steps
