pub mod OpenLemmas
pub mod TakenLemmas
pub mod RangeFacts
pub mod LookLemmas
pub mod MigrateLemmas
pub mod MigratedContent
pub mod ContentFacts
pub mod LegibleKeep
pub mod LegibleKeepAll
pub mod LegibleFinish
pub mod KeeperFacts
pub mod NumberFacts
mod Front
