-- Steps beside `specs/Order.antt`.
use Rattle.std.specs.Prelude.{◌≡◌, ℕ, Bool, true, ◌⊎◌, List, length, Some, Contains}
use Rattle.std.specs.List.{slice_get}
use Rattle.deb_control.specs.declared.binary.Binary.{Binary}
use Rattle.deb_control.specs.declared.relation.Clause.{Clause}
use Rattle.testing_install.specs.Among.{IsInstallableAmong}
use Rattle.testing_install.specs.Satisfies.{meets}
use Rattle.testing_install_why.specs.declared.Step.{Step}
use Rattle.testing_install_why.specs.Order.{IsNamed}

-- the list has the row at the place, unless that row is absent or installable
pub record Refutes (rows : List Binary) (there : ℕ → Bool) (steps : List Step) (place : ℕ) : Type 0 where
  pub named : there place ≡ true → (IsInstallableAmong rows there place → ⊥) → IsNamed steps (length steps) place

-- each present row that meets a clause of a row at the places is at one of them, or is installable
pub record IsReaching (rows : List Binary) (there : ℕ → Bool) (places : List ℕ) : Type 0 where
  pub each : (k : ℕ) (row : Binary) (i : ℕ) (clause : Clause) (b : ℕ) (other : Binary) → Contains places k → slice_get rows k ≡ Some row
      → slice_get row.clauses i ≡ Some clause → slice_get rows b ≡ Some other → there b ≡ true → meets other clause ≡ true
      → Contains places b ⊎ IsInstallableAmong rows there b
