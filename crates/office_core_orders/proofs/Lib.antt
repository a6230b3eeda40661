pub mod CountFacts
pub mod LetterFacts
pub mod OrderFacts
pub mod ReadyCount
pub mod WaitingFacts
