pub mod Fallen
pub mod Readiness
pub mod Lines
pub mod Origins
pub mod Said
pub mod States
pub mod steps
