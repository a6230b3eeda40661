pub mod CheckFacts
pub mod ComparedFacts
pub mod FoundFacts
pub mod FrontFacts
pub mod TakingFacts
pub mod UnreadFacts
pub mod EarlierFacts
