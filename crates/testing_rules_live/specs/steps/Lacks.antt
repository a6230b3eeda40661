-- A clause of a coming row that no present or coming row meets.
use Rattle.std.specs.Prelude.{◌≡◌, ℕ, ◌<◌, Bool, true, false, ◌&&◌, List, length, filter, Contains, Some}
use Rattle.std.specs.List.{slice_get, list_any, flat_map}
use Rattle.std.specs.Option.{option_map_or}
use Rattle.deb_control.specs.declared.relation.Clause.{Clause}
use Rattle.testing_install.specs.Closed.{marked}
use Rattle.testing_install.specs.Satisfies.{meets}
use Rattle.testing_rules_items.specs.Words.{Text}
use Rattle.testing_rules_model.specs.declared.facts.UploadIn.{UploadIn}
use Rattle.testing_rules_model.specs.declared.suite.RowIn.{RowIn}
use Rattle.testing_rules_model.specs.Moves.{group_sources, is_watched_on}
use Rattle.testing_rules_model.specs.steps.Moves.{is_row_on}
use Rattle.testing_rules_model.specs.Unstable.{is_current}
use Rattle.testing_rules_suites.specs.steps.Changes.{comes_at, AreThose}
use Rattle.testing_rules_suites.specs.steps.PresentSteps.{PoolState}

-- the pool's row at the place is on the architecture and meets the clause
abbrev pub meets_on : ℕ → List RowIn → Clause → ℕ → Bool
meets_on arch pool clause k = option_map_or (λ r. is_row_on arch r && meets r.binary clause) (slice_get pool k) false

-- this row is present, on the architecture and meets the clause
abbrev pub stands_for_it : ℕ → List RowIn → List Bool → Clause → ℕ → Bool
stands_for_it arch pool stands clause k = marked stands k && meets_on arch pool clause k

-- no present or coming row of the pool on the architecture meets the clause
pub record IsUnmet (arch : ℕ) (pool : List RowIn) (stands : List Bool) (coming : List ℕ) (clause : Clause) : Type 0 where
  pub standing : (k : ℕ) → stands_for_it arch pool stands clause k ≡ false
  pub came : list_any (meets_on arch pool clause) coming ≡ false

-- a coming row is watched on an architecture and has the clause, which is unmet there
pub record IsLack (archs : ℕ) (pool : List RowIn) (stands : List Bool) (coming : List ℕ) (clause : Clause) : Type 0 where
  pub arch : ℕ
  pub listed : arch < archs
  pub place : ℕ
  pub row : RowIn
  pub at : slice_get pool place ≡ Some row
  pub comes : Contains coming place
  pub watched : is_watched_on arch row ≡ true
  pub needs : Contains row.binary.clauses clause
  pub unmet : IsUnmet arch pool stands coming clause

-- this row is one of those that come when the group moves
pub record IsLackOfMove (s : PoolState) (sources : List UploadIn) (group : List Text) (clause : Clause) : Type 0 where
  pub coming : List ℕ
  pub arrive : AreThose (comes_at s.rows s.first) (group_sources sources group) coming
  pub lack : IsLack s.archs s.rows s.stands coming clause

-- the rows that come when the group moves
abbrev pub arriving : List UploadIn → List RowIn → List Text → List RowIn
arriving sources unstable group = flat_map (λ u. filter (is_current u) unstable) (group_sources sources group)

-- none of the rows on the architecture meets the clause
pub record NoneMeets (arch : ℕ) (clause : Clause) (rows : List RowIn) : Type 0 where
  pub each : (r : RowIn) → Contains rows r → is_row_on arch r ≡ true → meets r.binary clause ≡ true → ⊥

-- a row that comes with the group is watched on an architecture and has the clause, and neither these rows nor coming
-- ones meet it
pub record Lacks (archs : List Text) (sources : List UploadIn) (unstable : List RowIn) (group : List Text) (rows : List RowIn) (clause : Clause) : Type 0 where
  pub arch : ℕ
  pub listed : arch < length archs
  pub row : RowIn
  pub comes : Contains (arriving sources unstable group) row
  pub watched : is_watched_on arch row ≡ true
  pub needs : Contains row.binary.clauses clause
  pub unmet : NoneMeets arch clause rows
  pub alone : NoneMeets arch clause (arriving sources unstable group)
