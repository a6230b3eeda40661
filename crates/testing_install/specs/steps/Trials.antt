-- The result of a trial, and what a suite may remember of it.
use Rattle.std.specs.Prelude.{◌≡◌, ℕ, ◌<◌, Bool, true, false, ◌↔◌, List, length, Contains}
use Rattle.std.specs.List.{All}
use Rattle.deb_control.specs.declared.binary.Binary.{Binary}
use Rattle.testing_install.specs.Among.{after_change}
use Rattle.testing_install.specs.Closed.{marked}
use Rattle.testing_install.specs.Index.{PlacesByName}
use Rattle.testing_install.specs.steps.Suite.{IsRight, IsSuite}
use Rattle.testing_install.specs.Tracked.{Tracked}
use Rattle.testing_install.specs.declared.trials.LastTrial.{LastTrial}

-- the places are those with a mark in the first list and none in the second
abbrev pub IsDifference : List Bool → List Bool → List ℕ → Type 0
IsDifference first second places = (k : ℕ) → Contains places k ↔ ((marked first k ≡ true) × (marked second k ≡ false))

-- the places whose marks change are rows, and these changes make the suite right after the tried change
pub record IsTried (rows : List Binary) (there installable : List Bool) (tried : LastTrial) : Type 0 where
  pub falling_in : All (λ k. k < length rows) tried.falling.items
  pub rising_in : All (λ k. k < length rows) tried.rising.items
  pub right : IsRight rows (after_change tried.leaving.items tried.coming.items there) (after_change tried.falling.items tried.rising.items installable)

-- the suite is right, and stays right with the remembered result of a trial
pub record IsReady (rows : List Binary) (providers dependents : PlacesByName) (there installable : Tracked) (tried : LastTrial) : Type 0 where
  pub suite : IsSuite rows providers dependents there installable
  pub remembered : IsTried rows there.current installable.current tried
