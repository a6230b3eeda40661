-- The steps of an order that one step needs.
use Rattle.std.specs.Prelude.{◌≡◌, ℕ, ◌≤◌, Bool, true, List, length, Some, Contains}
use Rattle.std.specs.List.{slice_get}
use Rattle.deb_control.specs.declared.binary.Binary.{Binary}
use Rattle.deb_control.specs.declared.relation.Clause.{Clause}
use Rattle.testing_install.specs.Closed.{marked}
use Rattle.testing_install.specs.Index.{PlacesByName, provides_name, places_at}
use Rattle.testing_install_why.specs.declared.Step.{Step}
use Rattle.testing_install_why.specs.steps.Providers.{IsProvider}
use Rattle.testing_install_why.specs.steps.Steps.{IsClauseOf}

-- each step whose row provides a name is listed at the name, by its number
pub record IsStepIndex (rows : List Binary) (order : List Step) (noted : PlacesByName) : Type 0 where
  pub complete : (name : List ℕ) (n : ℕ) (step : Step) (row : Binary) → slice_get order n ≡ Some step → slice_get rows step.place ≡ Some row → provides_name row name ≡ true
      → Contains (places_at noted name) n

-- the earlier steps of this kind with rows that meet the clause get marks, and no later mark is new
pub record IsMarkedWhere (rows : List Binary) (order : List Step) (old new : List Bool) (number : ℕ) (clause : Clause) (kind : ℕ → Type 0) : Type 0 where
  pub long : length new ≡ length old
  pub grown : (n : ℕ) → marked old n ≡ true → marked new n ≡ true
  pub above : (n : ℕ) → number ≤ n → marked new n ≡ marked old n
  pub done : (m : ℕ) → kind m → IsProvider rows order number clause m → marked new m ≡ true

-- the earlier steps with rows that meet the clause of this one get marks, and no other mark is new
pub record IsMarkedFor (rows : List Binary) (order : List Step) (old new : List Bool) (number : ℕ) : Type 0 where
  pub long : length new ≡ length old
  pub grown : (n : ℕ) → marked old n ≡ true → marked new n ≡ true
  pub above : (n : ℕ) → number ≤ n → marked new n ≡ marked old n
  pub done : (step : Step) (clause : Clause) (m : ℕ) → slice_get order number ≡ Some step → IsClauseOf rows step clause → IsProvider rows order number clause m → marked new m ≡ true

-- the last step is marked, and so is all that each marked step from this number on needs
pub record IsNeeded (rows : List Binary) (order : List Step) (needed : List Bool) (last number : ℕ) : Type 0 where
  pub long : length needed ≡ length order
  pub ends : marked needed last ≡ true
  pub done : (n : ℕ) (step : Step) (clause : Clause) (m : ℕ) → number ≤ n → n ≤ last → slice_get order n ≡ Some step → marked needed n ≡ true → IsClauseOf rows step clause → IsProvider rows order n clause m → marked needed m ≡ true
