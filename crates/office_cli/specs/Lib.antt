pub mod Service
pub mod Told
pub mod steps
