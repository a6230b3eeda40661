-- Steps beside `specs/Certificate.antt`.
use Rattle.std.specs.Prelude.{◌≡◌, ℕ, Bool, List, [], ◌∷◌, ◌++◌}
use Rattle.deb_control.specs.declared.binary.Binary.{Binary}
use Rattle.testing_install_why.specs.declared.Step.{Step}
use Rattle.testing_install_why.specs.Order.{IsGroundless}

-- the list ends with the step, and is groundless wherever the order is
pub record IsCertificate (rows : List Binary) (order : List Step) (step : Step) (steps : List Step) : Type 0 where
  pub front : List Step
  pub ends : steps ≡ front ++ step ∷ []
  pub groundless : (there : ℕ → Bool) → IsGroundless rows there order → IsGroundless rows there steps
