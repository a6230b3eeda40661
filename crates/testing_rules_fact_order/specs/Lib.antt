pub mod Uploads
pub mod steps
