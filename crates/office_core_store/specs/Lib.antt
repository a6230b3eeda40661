pub mod Counted
pub mod ReadsStore
pub mod StaysTrusted
