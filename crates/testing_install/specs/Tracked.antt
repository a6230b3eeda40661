-- The places of a set: as it is, and as it was when last kept.
use Rattle.std.specs.Prelude.{Bool, List}

-- the places of a set: as it is, and as it was when last kept
pub record Tracked : Type 0 where
  pub current : List Bool
  pub kept : List Bool
