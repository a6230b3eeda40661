pub mod BlockFacts
pub mod CourseFacts
pub mod DeliverFacts
pub mod EndFacts
pub mod ReplayFacts
pub mod RiseFacts
pub mod StandFacts
pub mod TextFacts
