pub mod Ready
pub mod Waiting
pub mod WaitingLines
pub mod steps
