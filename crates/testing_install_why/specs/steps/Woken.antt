-- The rows that stop being held when a row is removed.
use Rattle.std.specs.Prelude.{◌≡◌, ℕ, Bool, true, false, List, Some}
use Rattle.std.specs.List.{slice_get}
use Rattle.deb_control.specs.declared.binary.Binary.{Binary}
use Rattle.testing_install.specs.steps.Among.{may_need}
use Rattle.testing_install.specs.Closed.{marked}
use Rattle.testing_install.specs.Dependents.{needs_name}

-- no row with a clause that has the name is held
pub record IsWokenAt (rows : List Binary) (held : List Bool) (name : List ℕ) : Type 0 where
  pub each : (k : ℕ) (row : Binary) → slice_get rows k ≡ Some row → needs_name row name ≡ true → marked held k ≡ false

-- no row with a clause that the package meets is held
pub record IsWokenFor (rows : List Binary) (held : List Bool) (binary : Binary) : Type 0 where
  pub each : (k : ℕ) (row : Binary) → slice_get rows k ≡ Some row → may_need row binary ≡ true → marked held k ≡ false
