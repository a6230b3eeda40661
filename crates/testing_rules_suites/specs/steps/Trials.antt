-- A change tried on one architecture.
use Rattle.std.specs.Prelude.{◌≡◌, ℕ, Bool, false, ◌↔◌, List, Contains, Option, map, filter}
use Rattle.std.specs.List.{slice_get, filter_map}
use Rattle.std.specs.Option.{option_map_or}
use Rattle.testing_install.specs.Among.{IsLost, after_change}
use Rattle.testing_install.specs.Closed.{marked}
use Rattle.testing_rules_model.specs.declared.suite.RowIn.{RowIn}
use Rattle.testing_rules_model.specs.Moves.{is_watched_on}
use Rattle.testing_rules_model.specs.steps.Moves.{is_row_on}
use Rattle.testing_rules_items.specs.Words.{Text, byte_cmp, least}

-- the row at the place is on the architecture
abbrev pub is_place_on : ℕ → List RowIn → ℕ → Bool
is_place_on arch pool k = option_map_or (is_row_on arch) (slice_get pool k) false

-- the names of the watched rows at some places
abbrev pub names_at : ℕ → List RowIn → List ℕ → List Text
names_at arch pool places = map (λ r. r.binary.name) (filter (is_watched_on arch) (filter_map (slice_get pool) places))

-- the first name in byte order of a watched row that the architecture loses if some rows leave and then some come
pub record IsFirstLost (arch : ℕ) (pool : List RowIn) (there : List Bool) (leaving coming : List ℕ) (name : Option Text) : Type 0 where
  pub places : List ℕ
  pub exact : (k : ℕ) → Contains places k
      ↔ IsLost (map (λ r. r.binary) pool) (marked there) (marked (after_change leaving (filter (is_place_on arch pool) coming) there)) k
  pub first : name ≡ least byte_cmp (names_at arch pool places)
