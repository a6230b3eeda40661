-- Steps of a list, by their numbers.
use Rattle.std.specs.Prelude.{◌≡◌, ℕ, List, Some}
use Rattle.std.specs.List.{slice_get}
use Rattle.deb_control.specs.declared.binary.Binary.{Binary}
use Rattle.deb_control.specs.declared.relation.Clause.{Clause}
use Rattle.testing_install_why.specs.declared.Step.{Step}
use Rattle.testing_install_why.specs.Order.{IsStep}

-- each step has its row and its clause
pub record AreSteps (rows : List Binary) (steps : List Step) : Type 0 where
  pub each : (n : ℕ) (step : Step) → slice_get steps n ≡ Some step → IsStep rows step

-- the clause is the step's
pub record IsClauseOf (rows : List Binary) (step : Step) (clause : Clause) : Type 0 where
  pub row : Binary
  pub stands : slice_get rows step.place ≡ Some row
  pub needs : slice_get row.clauses step.need ≡ Some clause
