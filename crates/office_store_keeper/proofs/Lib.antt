pub mod FactSets
pub mod KeyCounts
pub mod LeftRows
pub mod MemoryFacts
pub mod PartFacts
pub mod SaidItems
