-- The suite of each architecture over a pool of rows, and which rows of the pool are present during a run.
use Rattle.std.specs.Prelude.{◌≡◌, ℕ, Bool, ◌&&◌, List, [], ◌++◌, map, filter, length, Some}
use Rattle.std.specs.List.{slice_get, range_with_len}
use Rattle.testing_install.specs.Closed.{marked}
use Rattle.testing_rules_model.specs.declared.suite.RowIn.{RowIn}
use Rattle.testing_rules_suites.specs.steps.AfterMoves.{with_rows, rows_at}
use Rattle.testing_rules_model.specs.steps.Moves.{is_row_on}
use Rattle.testing_rules_suites.specs.steps.ArchRows.{ArchRows, package_at}
use Rattle.testing_rules_suites.specs.steps.Trials.{is_place_on}
use Rattle.testing_rules_model.specs.steps.SourceFilter.{passing_rows}
use Rattle.testing_rules_items.specs.Words.{Text}
use Rattle.testing_rules_suites.specs.Present.{IsShown}

-- the places of the present rows on the architecture
pub record IsOn (arch : ℕ) (pool : List RowIn) (stands there : ℕ → Bool) : Type 0 where
  pub on : (k : ℕ) (r : RowIn) → slice_get pool k ≡ Some r → there k ≡ (stands k && is_row_on arch r)

-- the suite has exactly the pool's rows on the architecture
pub record IsOver (arch : ℕ) (pool : List RowIn) (suite : ArchRows) : Type 0 where
  pub places : suite.places ≡ filter (is_place_on arch pool) (range_with_len 0 (length pool))
  pub rows : map (λ b. Some b) suite.suite.rows ≡ map (package_at pool) suite.places
  pub long : length suite.suite.there ≡ length suite.places

-- the suite is the architecture's: its present rows are the pool's
pub record IsSuiteOn (arch : ℕ) (pool : List RowIn) (stands : List Bool) (suite : ArchRows) : Type 0 where
  pub over : IsOver arch pool suite
  pub stand : (i k : ℕ) → slice_get suite.places i ≡ Some k → marked suite.suite.there i ≡ marked stands k

-- each suite has the pool's rows on its architecture
pub record AreOver (pool : List RowIn) (suites : List ArchRows) : Type 0 where
  pub each : (arch : ℕ) (suite : ArchRows) → slice_get suites arch ≡ Some suite → IsOver arch pool suite

-- each suite is that of its architecture
pub record AreSuites (pool : List RowIn) (stands : List Bool) (suites : List ArchRows) : Type 0 where
  pub each : (arch : ℕ) (suite : ArchRows) → slice_get suites arch ≡ Some suite → IsSuiteOn arch pool stands suite

-- the places whose flags are set
abbrev pub set_places : List Bool → List ℕ
set_places flags = filter (marked flags) (range_with_len 0 (length flags))

-- a pool's rows, the hashes of the names of the sources with unstable rows in it, the place of the first of unstable's
-- rows, which rows are present, and the number of architectures
pub record PoolState : Type 0 where
  pub rows : List RowIn
  pub candidates : List ℕ
  pub first : ℕ
  pub stands : List Bool
  pub archs : ℕ

-- the present rows of a pool, each put at its key
unfoldable pub present_rows : PoolState → List RowIn
present_rows s = with_rows (rows_at s.rows (set_places s.stands)) []

-- there is a flag for each row, and a suite for each architecture
pub record IsCarriedState (pool : List RowIn) (stands : List Bool) (archs : ℕ) (suites : List ArchRows) : Type 0 where
  pub long : length stands ≡ length pool
  pub count : archs ≡ length suites
  pub each : AreSuites pool stands suites

-- testing's rows are the present ones of a pool: its rows before the run, then unstable's rows that may come
pub record IsLive (s : PoolState) (archs : List Text) (unstable rows : List RowIn) : Type 0 where
  pub count : s.archs ≡ length archs
  pub before : List RowIn
  pub pooled : s.rows ≡ before ++ passing_rows s.candidates unstable
  pub begins : s.first ≡ length before
  pub shown : IsShown s.rows (marked s.stands) rows
