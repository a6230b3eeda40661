-- The rows that come and leave when a group moves.
use Rattle.std.specs.Prelude.{◌≡◌, ℕ, Bool, true, false, ◌&&◌, ◌==◌, ◌⊎◌, nat_le, List, Contains, slice_index_or}
use Rattle.std.specs.List.{slice_get, list_any}
use Rattle.std.specs.Option.{option_map_or}
use Rattle.std.specs.Str.{bytes_eq}
use Rattle.testing_rules_model.specs.declared.facts.UploadIn.{UploadIn}
use Rattle.testing_rules_model.specs.declared.suite.RowIn.{RowIn}
use Rattle.testing_rules_model.specs.Moves.{is_same_key, group_sources}
use Rattle.testing_rules_model.specs.Unstable.{is_current}
use Rattle.testing_rules_items.specs.Words.{Text}

-- the row at the place is one of unstable's, from the first place on, and is current for the upload
abbrev pub comes_at : List RowIn → ℕ → UploadIn → ℕ → Bool
comes_at pool first u k = nat_le first k && option_map_or (is_current u) (slice_get pool k) false

-- the row at the place is present and names the source
abbrev pub stands_of : List RowIn → List Bool → Text → ℕ → Bool
stands_of pool stands name k = slice_index_or stands k false && option_map_or (λ r. bytes_eq r.binary.source name) (slice_get pool k) false

-- the row at the place is present and has the other's key
abbrev pub stands_for : List RowIn → List Bool → RowIn → ℕ → Bool
stands_for pool stands other k = slice_index_or stands k false && option_map_or (is_same_key other) (slice_get pool k) false

-- the places are those that pass the test for one of the elements
pub record AreThose {A : Type 0} (test : A → ℕ → Bool) (xs : List A) (places : List ℕ) : Type 0 where
  pub sound : (k : ℕ) → Contains places k → (x : A) × Contains xs x × (test x k ≡ true)
  pub complete : (x : A) (k : ℕ) → Contains xs x → test x k ≡ true → Contains places k

-- the row at the place gives way to the one at the other: it is present and has the same key
abbrev pub gives_way_to : List RowIn → List Bool → ℕ → ℕ → Bool
gives_way_to pool stands other k = option_map_or (λ r. stands_for pool stands r k) (slice_get pool other) false

-- the place is in the list
abbrev pub has : List ℕ → ℕ → Bool
has places k = list_any (λ j. j == k) places

-- the rows that come and leave when the group moves: the present rows of its sources leave, and those with the key of a
-- coming row
pub record IsMoveOf (pool : List RowIn) (stands : List Bool) (first : ℕ) (sources : List UploadIn) (group : List Text) (leaving coming : List ℕ) : Type 0 where
  pub arriving : AreThose (comes_at pool first) (group_sources sources group) coming
  pub own : (name : Text) (k : ℕ) → Contains group name → stands_of pool stands name k ≡ true → Contains leaving k
  pub giving_way : (j k : ℕ) → Contains coming j → gives_way_to pool stands j k ≡ true → Contains leaving k
  pub only : (k : ℕ) → Contains leaving k
      → ((name : Text) × Contains group name × (stands_of pool stands name k ≡ true)) ⊎ ((j : ℕ) × Contains coming j × (gives_way_to pool stands j k ≡ true))
