-- Steps beside `specs/Refusals.antt`.
use Rattle.std.specs.Prelude.{◌≡◌, ℕ, ◌<◌, Bool, true, ◌&&◌, List, length, Some}
use Rattle.std.specs.List.{slice_get}
use Rattle.std.specs.Str.{bytes_eq}
use Rattle.deb_control.specs.declared.binary.Binary.{Binary}
use Rattle.testing_install.specs.Closed.{marked}
use Rattle.testing_install.specs.Suite.{SuiteState}
use Rattle.testing_rules_items.specs.Words.{Text}
use Rattle.testing_rules_model.specs.declared.suite.RowIn.{RowIn}
use Rattle.testing_rules_model.specs.declared.update.Offender.{Offender}
use Rattle.testing_rules_model.specs.Moves.{RowAnswer, fails_on, first_failing, offender_on}
use Rattle.testing_install_why.specs.declared.Step.{Step}
use Rattle.testing_rules_refusals.specs.Refusals.{IsShownRow}

-- these are the rows of the suite, all of them present
pub record AreAllThere (rows : List Binary) (suite : SuiteState) : Type 0 where
  pub same : suite.rows ≡ rows
  pub there : (k : ℕ) → k < length suite.rows → marked suite.there k ≡ true

-- the row has the name and fails
abbrev pub is_failing : ℕ → List Text → List RowAnswer → Text → RowAnswer → Bool
is_failing arch group before name j = bytes_eq j.row.binary.name name && fails_on arch group before j

-- the row at the place has the name and fails
pub record IsFailing (arch : ℕ) (group : List Text) (before after : List RowAnswer) (name : Text) (place : ℕ) : Type 0 where
  pub answer : RowAnswer
  pub stands : slice_get after place ≡ Some answer
  pub is : is_failing arch group before name answer ≡ true

-- some row with the name fails
pub record HasFailing (arch : ℕ) (group : List Text) (before after : List RowAnswer) (name : Text) : Type 0 where
  pub place : ℕ
  pub is : IsFailing arch group before after name place

-- the row at the place fails, and no failing row has an earlier name
pub record IsFirstFailing (arch : ℕ) (group : List Text) (before after : List RowAnswer) (place : ℕ) : Type 0 where
  pub name : Text
  pub first : first_failing arch group before after ≡ Some name
  pub is : IsFailing arch group before after name place

-- the change breaks this row on the architecture, with its proof
pub record IsRefusalOn (arch : ℕ) (old new : List RowIn) (group : List Text) (o : Offender) (rows : List RowIn) (steps : List Step) : Type 0 where
  pub first : offender_on old new group arch ≡ Some o
  pub shows : IsShownRow old new group o rows steps
