pub mod Telling
pub mod Whole
pub mod Earlier
pub mod steps
