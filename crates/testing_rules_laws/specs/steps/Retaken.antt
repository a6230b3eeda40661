-- Facts beside another testing: which uploads are taken again. That facts are kept is this office's own.
use Rattle.std.specs.Prelude.{◌++◌, List, Contains}
use Rattle.testing_rules_items.specs.Words.{Text}
use Rattle.testing_rules_model.specs.declared.facts.UploadIn.{UploadIn}
use Rattle.testing_rules_model.specs.Suite.{Suite}
use Rattle.testing_rules_model.specs.FactLists.{FactLists}
use Rattle.testing_rules_model.specs.Covered.{Covered, CoveredItem, uploads_in}
use Rattle.testing_rules_model.specs.KeptFacts.{trimmed, KeptFacts}
use Rattle.testing_rules_model.specs.steps.KeptFacts.{AreFallen}
use Rattle.testing_rules_model.specs.SameMessages.{HasOneOfEach}
use Rattle.testing_rules_model.specs.StandsFor.{StandsFor}

-- messages of the set are taken again, including all uploads with these names
pub record AreTakenAgain (names : List Text) (again s : Covered) (f : FactLists) : Type 0 where
  pub within : (m : CoveredItem) → Contains again m → Contains s m
  pub all : (u : UploadIn) → Contains (uploads_in s) u → Contains names u.source → Contains (uploads_in again) u
  pub there : (u : UploadIn) → Contains (uploads_in again) u → Contains f.uploads u

-- Facts that stand for a set with a testing are kept facts with it once trimmed.
abbrev pub TrimKeeps : Type 0
TrimKeeps = (f : FactLists) (s : Covered) (t : Suite) → StandsFor f s t → KeptFacts (trimmed t f) s t

-- Facts that took the uploads of the fallen sources again stand for the set with the new testing.
abbrev pub RetakenStand : Type 0
RetakenStand =
    (f : FactLists) (again s : Covered) (old new : Suite) (names : List Text) → HasOneOfEach s → AreFallen names old new → AreTakenAgain names again s f
    → StandsFor f (again ++ s) old → StandsFor f s new
