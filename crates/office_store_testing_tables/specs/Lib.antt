pub mod Layout
pub mod Tables
pub mod Entries
pub mod FactTables
pub mod TableContent
pub mod Legible
pub mod steps
