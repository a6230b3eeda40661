-- Why a change of testing is refused (Debian Developer's Reference 5.13.2): the first row that it breaks, and the proof
-- that this row isn't installable then (Debian Policy 7.1, 7.2 and 7.5).
use Rattle.std.specs.Prelude.{◌≡◌, ℕ, true, false, List, Some}
use Rattle.std.specs.List.{slice_get}
use Rattle.testing_rules_items.specs.Words.{Text}
use Rattle.testing_rules_model.specs.declared.suite.RowIn.{RowIn}
use Rattle.testing_rules_model.specs.declared.update.Offender.{Offender}
use Rattle.testing_rules_model.specs.Moves.{rows_on, judged_on, fails_on, offender_of}
use Rattle.testing_rules_refusals.specs.Needs.{packages}
use Rattle.testing_install_why.specs.Certificate.{IsShownBy, everywhere}
use Rattle.testing_install_why.specs.declared.Step.{Step}

-- the rows are those on the offender's architecture after the change. The last step is that of the offender's failing
-- row, and the list of steps shows that it isn't installable
pub record IsShownRow (old new : List RowIn) (group : List Text) (o : Offender) (rows : List RowIn) (steps : List Step) : Type 0 where
  pub place : ℕ
  pub row : RowIn
  pub rows_are : rows ≡ rows_on o.arch new
  pub stands : slice_get rows place ≡ Some row
  pub named : row.binary.name ≡ o.«package»
  pub fails : fails_on o.arch group (judged_on o.arch old) (record { row = row; is_installable = false }) ≡ true
  pub shown : IsShownBy (packages rows) everywhere place steps

-- this is the first row that the change breaks, with its proof
pub record IsRefusal (archs : List Text) (old new : List RowIn) (group : List Text) (o : Offender) (rows : List RowIn) (steps : List Step) : Type 0 where
  pub first : offender_of archs old new group ≡ Some o
  pub shows : IsShownRow old new group o rows steps
