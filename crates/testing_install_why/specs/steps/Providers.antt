-- The steps of an order with rows that meet a clause.
use Rattle.std.specs.Prelude.{◌≡◌, ℕ, ◌<◌, ◌≤◌, true, List, Some}
use Rattle.std.specs.List.{slice_get}
use Rattle.deb_control.specs.declared.binary.Binary.{Binary}
use Rattle.deb_control.specs.declared.relation.Clause.{Clause}
use Rattle.testing_install.specs.Satisfies.{meets}
use Rattle.testing_install_why.specs.declared.Step.{Step}
use Rattle.testing_install_why.specs.steps.Steps.{IsClauseOf}

-- the step with the number is one of the first, and its row meets the clause
pub record IsProvider (rows : List Binary) (order : List Step) (end : ℕ) (clause : Clause) (n : ℕ) : Type 0 where
  pub step : Step
  pub row : Binary
  pub earlier : n < end
  pub is : slice_get order n ≡ Some step
  pub stands : slice_get rows step.place ≡ Some row
  pub does : meets row clause ≡ true

-- the least number of this kind of a first step with a row that meets the clause, or the end without one
pub record IsLeast (rows : List Binary) (order : List Step) (end : ℕ) (clause : Clause) (least : ℕ) (kind : ℕ → Type 0) : Type 0 where
  pub most : least ≤ end
  pub found : least < end → IsProvider rows order end clause least
  pub below : (m : ℕ) → kind m → IsProvider rows order least clause m → ⊥

-- the row of one step meets the clause of a later step
pub record IsNext (rows : List Binary) (order : List Step) (last n : ℕ) : Type 0 where
  pub step : Step
  pub clause : Clause
  pub is : slice_get order last ≡ Some step
  pub of : IsClauseOf rows step clause
  pub provider : IsProvider rows order last clause n

-- no row of the steps before this one meets its clause
pub record IsLast (rows : List Binary) (order : List Step) (last : ℕ) : Type 0 where
  pub step : Step
  pub clause : Clause
  pub is : slice_get order last ≡ Some step
  pub of : IsClauseOf rows step clause
  pub none : (n : ℕ) → IsProvider rows order last clause n → ⊥

-- the step with the number has the row at the place
pub record IsStepOf (steps : List Step) (n place : ℕ) : Type 0 where
  pub step : Step
  pub is : slice_get steps n ≡ Some step
  pub same : step.place ≡ place
