-- Steps beside `specs/Blocks.antt`.
use Rattle.std.specs.Prelude.{◌≡◌, ℕ, ◌+◌, ◌<◌, ◌≤◌, Bool, true, false, List, [], ◌∷◌, Option, Some, None, length, slice_index_or}
use Rattle.std.specs.List.{AllByRecursion}
use Rattle.std.specs.Ordering.{is_gt}
use Rattle.testing_rules_model.specs.declared.facts.BuildIn.{BuildIn}
use Rattle.testing_rules_items.specs.Words.{Text}
use Rattle.testing_rules_model.specs.Unstable.{pair_order, pair_of}

-- the rows of an optional block
abbrev pub upper_rows : Option (List BuildIn) → List BuildIn
upper_rows None = []
upper_rows (Some rows) = rows

-- a block isn't full, and has memory for a full one
pub record IsRoomy (len capacity : ℕ) : Type 0 where
  pub below : len < 64
  pub room : 64 ≤ capacity

-- memory for the rows of a block, still without rows
pub record IsSpare (rows : List BuildIn) (capacity : ℕ) : Type 0 where
  pub empty : rows ≡ []
  pub room : 64 ≤ capacity

-- the block isn't empty
abbrev pub HasRows : List BuildIn → Type 0
HasRows rows = 0 < length rows

-- each block but the first isn't empty
abbrev pub AreBlocks : List (List BuildIn) → Type 0
AreBlocks [] = Unit {0}
AreBlocks (first ∷ others) = AllByRecursion HasRows others

-- the block begins with a row above the pair
abbrev pub begins_above : Text × Text → List BuildIn → Bool
begins_above p [] = false
begins_above p (b ∷ bs) = is_gt (pair_order (pair_of b) p)

-- the pair belongs to the block at the place: this block doesn't begin above it (unless it is the first), the next one
-- does
pub record IsBlockFor (p : Text × Text) (blocks : List (List BuildIn)) (place : ℕ) : Type 0 where
  pub bound : place < length blocks
  pub begins : 0 < place → begins_above p (slice_index_or blocks place []) ≡ false
  pub ends : place + 1 < length blocks → begins_above p (slice_index_or blocks (place + 1) []) ≡ true
