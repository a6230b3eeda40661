pub mod Asked
pub mod Hosts
pub mod Reply
pub mod Request
pub mod Routes
pub mod steps
