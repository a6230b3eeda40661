pub mod Hints
pub mod Later
pub mod UnstableText
pub mod Why
pub mod steps
