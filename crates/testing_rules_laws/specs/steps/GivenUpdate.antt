-- What a run brings into testing, where its facts are said by covered messages. That facts are kept is this office's own.
use Rattle.std.specs.Prelude.{◌≤◌, List, length}
use Rattle.testing_rules_items.specs.Words.{Text, most_archs}
use Rattle.testing_rules_laws.specs.steps.SameRows.{AreSaidBy}
use Rattle.testing_rules_model.specs.declared.excuse.Excuse.{Excuse}
use Rattle.testing_rules_model.specs.Covered.{Covered}
use Rattle.testing_rules_model.specs.FactLists.{FactLists}
use Rattle.testing_rules_model.specs.Provenance.{IsGivenBy, KnowsArchs}
use Rattle.testing_rules_model.specs.Suite.{Suite}
use Rattle.testing_rules_model.specs.Unstable.{built_rows}
use Rattle.testing_rules_model.specs.Updates.{update_by}

-- the testing that a run over facts leaves
abbrev pub suite_by : List Text → FactLists → List Excuse → Suite → Suite
suite_by archs f excuses t = (update_by archs f.sources (built_rows archs f.rows) f.hints f.unhints excuses t).suite

-- Messages that say the facts give everything that a run over the facts brings into testing, and no row of another
-- architecture comes.
abbrev pub FactsGiveUpdate : Type 0
FactsGiveUpdate =
    (archs : List Text) (s : Covered) (f : FactLists) (excuses : List Excuse) (old : Suite) → length archs ≤ most_archs → AreSaidBy f s
    → IsGivenBy archs s old (suite_by archs f excuses old) × (KnowsArchs archs old.rows → KnowsArchs archs (suite_by archs f excuses old).rows)
