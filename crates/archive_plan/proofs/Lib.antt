pub mod MergeFacts
pub mod PlanFacts
pub mod SyncFacts
