-- Checks on rows and steps, with all rows present.
use Rattle.std.specs.Prelude.{◌≡◌, ℕ, ◌<◌, true, List, [], ◌∷◌, ◌++◌, length, Some, Contains}
use Rattle.std.specs.List.{slice_get}
use Rattle.deb_control.specs.declared.binary.Binary.{Binary}
use Rattle.deb_control.specs.declared.relation.Clause.{Clause}
use Rattle.testing_install.specs.Index.{PlacesByName, places_at}
use Rattle.testing_install.specs.Dependents.{names}
use Rattle.testing_install.specs.Satisfies.{meets}
use Rattle.testing_install_why.specs.declared.Step.{Step}
use Rattle.testing_install_why.specs.Order.{IsNamed}
use Rattle.testing_install_why.specs.steps.Steps.{IsClauseOf}

-- if the row at the place meets the clause of the step with this number, an earlier step has the place
pub record IsPast (rows : List Binary) (steps : List Step) (row : Binary) (place number : ℕ) : Type 0 where
  pub each : (step : Step) (clause : Clause) → slice_get steps number ≡ Some step → IsClauseOf rows step clause → meets row clause ≡ true → IsNamed steps number place

-- this is true of each of the first n steps, for one row
pub record ArePast (rows : List Binary) (steps : List Step) (row : Binary) (place n : ℕ) : Type 0 where
  pub each : (m : ℕ) → m < n → IsPast rows steps row place m

-- this is true of each step and the row at the place
pub record IsRowPlaced (rows : List Binary) (steps : List Step) (place : ℕ) : Type 0 where
  pub each : (row : Binary) → slice_get rows place ≡ Some row → ArePast rows steps row place (length steps)

-- this is true of each of the first n rows
pub record IsPlaced (rows : List Binary) (steps : List Step) (n : ℕ) : Type 0 where
  pub each : (k : ℕ) → k < n → IsRowPlaced rows steps k

-- the last step has the row at the place
pub record EndsAt (steps : List Step) (place : ℕ) : Type 0 where
  pub front : List Step
  pub last : Step
  pub ends : steps ≡ front ++ last ∷ []
  pub same : last.place ≡ place

-- each step whose clause has a name is listed at the name, by its number
pub record IsClauseIndex (rows : List Binary) (steps : List Step) (noted : PlacesByName) : Type 0 where
  pub complete : (name : List ℕ) (n : ℕ) (step : Step) (clause : Clause) → slice_get steps n ≡ Some step → IsClauseOf rows step clause → names clause name ≡ true → Contains (places_at noted name) n
