pub mod Reports
pub mod Changes
pub mod Sources
pub mod Tried
pub mod steps
