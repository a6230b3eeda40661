-- Steps beside `specs/Suite.antt`.
use Rattle.std.specs.Prelude.{◌≡◌, ℕ, Bool, true, false, ◌⊎◌, List, length, Contains}
use Rattle.deb_control.specs.declared.binary.Binary.{Binary}
use Rattle.testing_install.specs.steps.Among.{IsGreatestAmong}
use Rattle.testing_install.specs.Closed.{marked}
use Rattle.testing_install.specs.Index.{PlacesByName}
use Rattle.testing_install.specs.steps.Dependents.{IsGraph}
use Rattle.testing_install.specs.Tracked.{Tracked}

-- there is one mark per row, and the installable rows are the greatest closed set of present rows
pub record IsRight (rows : List Binary) (there installable : List Bool) : Type 0 where
  pub there_len : length there ≡ length rows
  pub installable_len : length installable ≡ length rows
  pub greatest : IsGreatestAmong rows (marked there) (marked installable)

-- after a change the suite is right again; the lost rows are present and not installable, and each such row is among
-- them if before it was installable or absent
pub record IsChanged (rows : List Binary) (old_there old_installable there installable : List Bool) (lost : List ℕ) : Type 0 where
  pub right : IsRight rows there installable
  pub all : (k : ℕ) → marked there k ≡ true → marked installable k ≡ false → (marked old_installable k ≡ true) ⊎ (marked old_there k ≡ false) → Contains lost k
  pub broken : (k : ℕ) → Contains lost k → (marked there k ≡ true) × (marked installable k ≡ false)

-- the suite is right, and no change is left to keep or undo
pub record IsSuite (rows : List Binary) (providers dependents : PlacesByName) (there installable : Tracked) : Type 0 where
  pub graph : IsGraph rows providers dependents
  pub right : IsRight rows there.current installable.current
  pub there_kept : there.kept ≡ there.current
  pub installable_kept : installable.kept ≡ installable.current
