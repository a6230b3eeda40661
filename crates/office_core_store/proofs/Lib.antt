pub mod GivingBack
pub mod LastFacts
pub mod LookFacts
