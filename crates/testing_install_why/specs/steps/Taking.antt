-- What is true while rows are removed from those that may be installable.
use Rattle.std.specs.Prelude.{◌≡◌, ℕ, ◌<◌, Bool, true, false, ◌⊎◌, List, length, Some, Contains}
use Rattle.std.specs.List.{slice_get, All}
use Rattle.deb_control.specs.declared.binary.Binary.{Binary}
use Rattle.deb_control.specs.declared.relation.Clause.{Clause}
use Rattle.testing_install.specs.Closed.{IsMet, marked}
use Rattle.testing_install_why.specs.declared.Step.{Step}
use Rattle.testing_install_why.specs.Order.{IsNamed, IsGroundless, IsStep}

-- no row of the set meets the clause with the number
pub record FailsAt (rows : List Binary) (set : ℕ → Bool) (clauses : List Clause) (i : ℕ) : Type 0 where
  pub clause : Clause
  pub needs : slice_get clauses i ≡ Some clause
  pub unmet : IsMet rows set clause → ⊥

-- the step's row is in the set, and no row of the set meets its clause
pub record FailsBy (rows : List Binary) (set : ℕ → Bool) (step : Step) : Type 0 where
  pub is : IsStep rows step
  pub here : set step.place ≡ true
  pub unmet : IsMet rows set is.clause → ⊥

-- the row at the place isn't in the set, or the set meets each of its clauses
pub record IsHeldAt (rows : List Binary) (set : ℕ → Bool) (place : ℕ) : Type 0 where
  pub each : (row : Binary) → slice_get rows place ≡ Some row → set place ≡ true → All (IsMet rows set) row.clauses

-- what is true while rows are removed: the present rows are left or have their steps
pub record IsOrder (rows : List Binary) (there : ℕ → Bool) (left : List Bool) (steps : List Step) : Type 0 where
  pub long : length left ≡ length rows
  pub inside : (k : ℕ) → marked left k ≡ true → there k ≡ true
  pub gone : (k : ℕ) → k < length rows → there k ≡ true → marked left k ≡ false → IsNamed steps (length steps) k
  pub groundless : IsGroundless rows there steps

-- what is true between two looks: the remaining rows meet the clauses of the held ones, and each remaining row at the
-- given places is held or waiting
pub record IsLooked (rows : List Binary) (places : List ℕ) (left held : List Bool) (waiting : List ℕ) : Type 0 where
  pub long : length held ≡ length rows
  pub within : All (λ k. k < length rows) waiting
  pub stands : (k : ℕ) → marked held k ≡ true → IsHeldAt rows (marked left) k
  pub known : (k : ℕ) → Contains places k → (marked held k ≡ true) ⊎ ((marked left k ≡ false) ⊎ Contains waiting k)
