pub mod AskedFacts
pub mod BreaksFacts
pub mod EachArch
pub mod Naming
pub mod Untold
pub mod Working
