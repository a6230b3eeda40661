pub mod Given
pub mod Rows
pub mod Rulings
pub mod LineFacts
