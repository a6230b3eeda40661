pub mod Asked
pub mod Breaks
pub mod Texts
pub mod Told
pub mod steps
