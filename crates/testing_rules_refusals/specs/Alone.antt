-- Why a source can't move alone (Debian Developer's Reference 5.13.2).
use Rattle.std.specs.Prelude.{List, [], ◌∷◌}
use Rattle.testing_rules_items.specs.Words.{Text}
use Rattle.testing_rules_model.specs.declared.excuse.Excuse.{Excuse}
use Rattle.testing_rules_model.specs.declared.facts.UploadIn.{UploadIn}
use Rattle.testing_rules_model.specs.declared.suite.RowIn.{RowIn}
use Rattle.testing_rules_model.specs.Suite.{Suite}
use Rattle.testing_rules_refusals.specs.ToldChange.{IsToldMove}

-- this text says why the source of the excuse can't move alone, with these unstable sources and rows
abbrev pub IsToldAlone : List Text → List UploadIn → List RowIn → List Excuse → Suite → Excuse → Text → Type 0
IsToldAlone archs sources unstable excuses t e text = IsToldMove archs sources unstable excuses t (e.source ∷ []) text
