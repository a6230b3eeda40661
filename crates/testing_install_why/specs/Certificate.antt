-- What an order shows about one row.
use Rattle.std.specs.Prelude.{◌≡◌, ℕ, Bool, true, List, [], ◌∷◌, ◌++◌}
use Rattle.deb_control.specs.declared.binary.Binary.{Binary}
use Rattle.testing_install_why.specs.declared.Step.{Step}
use Rattle.testing_install_why.specs.Order.{IsGroundless}

-- the list is groundless, and ends with a step of the row at the place
pub record IsShownBy (rows : List Binary) (there : ℕ → Bool) (place : ℕ) (steps : List Step) : Type 0 where
  pub front : List Step
  pub last : Step
  pub ends : steps ≡ front ++ last ∷ []
  pub same : last.place ≡ place
  pub groundless : IsGroundless rows there steps

-- each row is present
abbrev pub everywhere : ℕ → Bool
everywhere place = true
