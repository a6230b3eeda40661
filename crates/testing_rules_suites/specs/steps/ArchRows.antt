-- A suite of some of a pool's rows, by their places in the pool.
use Rattle.std.specs.Prelude.{◌≡◌, ℕ, ◌<◌, ◌↔◌, Bool, List, length, Contains, Option, Some, option_map}
use Rattle.std.specs.List.{AllPairs, slice_get}
use Rattle.std.specs.Option.{MatchOption}
use Rattle.deb_control.specs.declared.binary.Binary.{Binary}
use Rattle.testing_install.specs.Among.{IsLost, after_change}
use Rattle.testing_install.specs.Closed.{marked}
use Rattle.testing_install.specs.Suite.{SuiteState}
use Rattle.testing_rules_model.specs.declared.suite.RowIn.{RowIn}

-- the places of its rows in the pool, and the suite of these rows
pub record ArchRows : Type 0 where
  pub places : List ℕ
  pub suite : SuiteState

-- each place is above those before it
abbrev pub AreAscending : List ℕ → Type 0
AreAscending places = AllPairs (λ j k. j < k) places

-- the places ascend, with a row and a mark for each
pub record IsArchRows (places : List ℕ) (suite : SuiteState) : Type 0 where
  pub ascending : AreAscending places
  pub count : length suite.rows ≡ length places
  pub long : length suite.there ≡ length places

-- the number of the place among these, if it is one of them
abbrev pub IsNumberOf : List ℕ → ℕ → Option ℕ → Type 0
IsNumberOf places place number = MatchOption number ((i : ℕ) → slice_get places i ≡ Some place → ⊥) (λ i. slice_get places i ≡ Some place)

-- the numbers, among the places of a part, of the places that it has
pub record AreNumbers (own places numbers : List ℕ) : Type 0 where
  pub sound : (i : ℕ) → Contains numbers i → (k : ℕ) × (slice_get own i ≡ Some k) × Contains places k
  pub complete : (i k : ℕ) → slice_get own i ≡ Some k → Contains places k → Contains numbers i

-- the package of the pool's row at the place
abbrev pub package_at : List RowIn → ℕ → Option Binary
package_at pool k = option_map (λ r. r.binary) (slice_get pool k)

-- which rows of the part are present after the rows at some places of the pool have left and then others have come
pub record IsAfter (part : ArchRows) (leaving coming : List ℕ) (there : List Bool) : Type 0 where
  pub left : List ℕ
  pub came : List ℕ
  pub left_are : AreNumbers part.places leaving left
  pub came_are : AreNumbers part.places coming came
  pub exact : there ≡ after_change left came part.suite.there

-- the places are those of the rows that the part loses by a change
pub record AreLostFrom (part : ArchRows) (leaving coming lost : List ℕ) : Type 0 where
  pub there : List Bool
  pub after : IsAfter part leaving coming there
  pub exact : (k : ℕ) → Contains lost k ↔ ((i : ℕ) × (slice_get part.places i ≡ Some k) × IsLost part.suite.rows (marked part.suite.there) (marked there) i)
