-- The proof that an offender's row isn't installable, if no other row on its architecture has its name.
use Rattle.std.specs.Prelude.{◌≡◌, ℕ, ◌<◌, List, length, Some}
use Rattle.std.specs.List.{slice_get}
use Rattle.testing_rules_items.specs.Words.{Text}
use Rattle.testing_rules_model.specs.declared.suite.RowIn.{RowIn}
use Rattle.testing_rules_model.specs.declared.update.Offender.{Offender}
use Rattle.testing_rules_model.specs.Moves.{rows_on}
use Rattle.testing_rules_refusals.specs.Needs.{packages}
use Rattle.testing_install_why.specs.Certificate.{IsShownBy, everywhere}
use Rattle.testing_install_why.specs.declared.Step.{Step}

-- the row at the place has the name
pub record IsOf (rows : List RowIn) (name : Text) (place : ℕ) : Type 0 where
  pub row : RowIn
  pub stands : slice_get rows place ≡ Some row
  pub named : row.binary.name ≡ name

-- among the first n rows only the one at this place has the name
pub record AreOnlyAt (rows : List RowIn) (name : Text) (only n : ℕ) : Type 0 where
  pub each : (k : ℕ) (row : RowIn) → k < n → slice_get rows k ≡ Some row → row.binary.name ≡ name → k ≡ only

-- only the row at the place has the name
pub record IsOnlyOf (rows : List RowIn) (name : Text) (place : ℕ) : Type 0 where
  pub is : IsOf rows name place
  pub only : AreOnlyAt rows name place (length rows)

-- the steps are about this offender, the only row with its name on its architecture, and show that it isn't installable
pub record IsShownOf (new : List RowIn) (offender o : Offender) (rows : List RowIn) (steps : List Step) : Type 0 where
  pub place : ℕ
  pub same : o ≡ offender
  pub rows_are : rows ≡ rows_on o.arch new
  pub only : IsOnlyOf rows o.«package» place
  pub shown : IsShownBy (packages rows) everywhere place steps
