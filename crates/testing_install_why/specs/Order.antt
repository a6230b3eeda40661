-- Why rows aren't installable: a list of rows and clauses that shows it line by line.
use Rattle.std.specs.Prelude.{◌≡◌, ℕ, ◌<◌, Bool, true, ◌⊎◌, List, length, Some}
use Rattle.std.specs.List.{slice_get}
use Rattle.deb_control.specs.declared.binary.Binary.{Binary}
use Rattle.deb_control.specs.declared.relation.Clause.{Clause}
use Rattle.testing_install.specs.Among.{IsInstallableAmong}
use Rattle.testing_install.specs.Satisfies.{meets}
use Rattle.testing_install_why.specs.declared.Step.{Step}

-- the step's row and its clause
pub record IsStep (rows : List Binary) (step : Step) : Type 0 where
  pub row : Binary
  pub clause : Clause
  pub stands : slice_get rows step.place ≡ Some row
  pub needs : slice_get row.clauses step.need ≡ Some clause

-- one of the first n steps has the row at the place
pub record IsNamed (steps : List Step) (n place : ℕ) : Type 0 where
  pub number : ℕ
  pub step : Step
  pub earlier : number < n
  pub stands : slice_get steps number ≡ Some step
  pub same : step.place ≡ place

-- the step's row is present, and each present row that meets its clause is in one of the first n steps
pub record Falls (rows : List Binary) (there : ℕ → Bool) (steps : List Step) (n : ℕ) (step : Step) : Type 0 where
  pub is : IsStep rows step
  pub here : there step.place ≡ true
  pub unmet : (k : ℕ) (other : Binary) → slice_get rows k ≡ Some other → there k ≡ true → meets other is.clause ≡ true → IsNamed steps n k

-- each row of the list is present, with a clause such that all present rows meeting it are earlier in the list
pub record IsGroundless (rows : List Binary) (there : ℕ → Bool) (steps : List Step) : Type 0 where
  pub each : (n : ℕ) (step : Step) → slice_get steps n ≡ Some step → Falls rows there steps n step

-- such a list with every present row that isn't installable
pub record IsWhole (rows : List Binary) (there : ℕ → Bool) (steps : List Step) : Type 0 where
  pub groundless : IsGroundless rows there steps
  pub every : (k : ℕ) → k < length rows → there k ≡ true → IsNamed steps (length steps) k ⊎ IsInstallableAmong rows there k
