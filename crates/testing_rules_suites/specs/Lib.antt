pub mod CarriedOver
pub mod Present
pub mod steps
