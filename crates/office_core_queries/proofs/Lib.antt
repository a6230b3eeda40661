pub mod AskFacts
pub mod CountFacts
pub mod ExportFacts
pub mod LetterLists
pub mod MirrorFacts
pub mod PartFacts
mod ReadItems
mod ReportFacts
pub mod StatedFacts
pub mod TextLists
