-- Which rows of a pool are to be present.
use Rattle.std.specs.Prelude.{◌≡◌, ◌⊎◌, ℕ, Bool, true, ◌&&◌, not, List, length, Some, Contains}
use Rattle.std.specs.List.{slice_get}
use Rattle.testing_install.specs.Closed.{marked}
use Rattle.testing_rules_model.specs.declared.suite.RowIn.{RowIn}

-- the flag is set at the place in the first list, and not in the second
abbrev pub is_alone : List Bool → List Bool → ℕ → Bool
is_alone flags others k = marked flags k && not (marked others k)

-- a row is present if its flag is set
abbrev pub IsSetFor : List RowIn → List Bool → RowIn → Type 0
IsSetFor pool flags r = (k : ℕ) × (slice_get pool k ≡ Some r) × (marked flags k ≡ true)

-- the wanted rows: those with their flags set, and others that the pool hasn't
pub record AreWanted (pool rows : List RowIn) (flags : List Bool) (lacking : List RowIn) : Type 0 where
  pub long : length flags ≡ length pool
  pub among : (k : ℕ) (r : RowIn) → slice_get pool k ≡ Some r → marked flags k ≡ true → Contains rows r
  pub lacking_among : (r : RowIn) → Contains lacking r → Contains rows r
  pub each : (r : RowIn) → Contains rows r → IsSetFor pool flags r ⊎ Contains lacking r
