-- Why a change of testing is refused, in lines: the move of a group as one (Debian Developer's Reference 5.13.2.3), or
-- a removal (britney2's `remove`).
use Rattle.std.specs.Prelude.{◌≡◌, List, []}
use Rattle.testing_rules_items.specs.Words.{Text}
use Rattle.testing_rules_model.specs.declared.excuse.Excuse.{Excuse}
use Rattle.testing_rules_model.specs.declared.facts.UploadIn.{UploadIn}
use Rattle.testing_rules_model.specs.declared.suite.RowIn.{RowIn}
use Rattle.testing_rules_model.specs.declared.update.Offender.{Offender}
use Rattle.testing_rules_model.specs.Moves.{rows_on, move_group, remove_source}
use Rattle.testing_rules_model.specs.Suite.{Suite}
use Rattle.testing_rules_refusals.specs.Refusals.{IsRefusal}
use Rattle.testing_rules_refusals.specs.Texts.{Known, refusal_text}
use Rattle.testing_rules_refusals.specs.Told.{lines_of}
use Rattle.testing_install_why.specs.declared.Step.{Step}

-- This text says why a change of testing from its old rows to the new ones is refused, given which sources come. Its
-- lines prove that the offender's row isn't installable among the rows on its architecture after the change, compared
-- with testing's rows there before it and with unstable's. The excuses may be those of a run that made testing what it
-- is.
pub record IsToldChange (t : Suite) (known : Known) (unstable : List RowIn) (old new : List RowIn) (text : Text) : Type 0 where
  pub offender : Offender
  pub rows : List RowIn
  pub steps : List Step
  pub refusal : IsRefusal known.archs old new known.coming offender rows steps
  pub told : text ≡ refusal_text t known (lines_of rows steps (rows_on offender.arch old) (rows_on offender.arch unstable))

-- this text says why the group can't move as one
abbrev pub IsToldMove : List Text → List UploadIn → List RowIn → List Excuse → Suite → List Text → Text → Type 0
IsToldMove archs sources unstable excuses t group text =
    IsToldChange t (record { archs = archs; sources = sources; excuses = excuses; coming = group; stuck = [] }) unstable t.rows (move_group sources unstable group t).rows text

-- this text says why the source can't be removed
abbrev pub IsToldRemoval : List Text → List UploadIn → List RowIn → List Excuse → Suite → Text → Text → Type 0
IsToldRemoval archs sources unstable excuses t name text =
    IsToldChange t (record { archs = archs; sources = sources; excuses = excuses; coming = []; stuck = [] }) unstable t.rows (remove_source name t).rows text
