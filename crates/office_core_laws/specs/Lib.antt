pub mod Checked
pub mod FromUnstable
pub mod Mailed
pub mod OrderTaken
pub mod Printed
pub mod StuckStays
