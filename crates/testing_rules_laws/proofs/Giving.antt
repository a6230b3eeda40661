-- Messages that say the facts give what a run over the facts brings into testing.
use Rattle.std.specs.Prelude.{◌≤◌, List, length}
use Rattle.testing_rules_items.specs.Words.{Text}
use Rattle.testing_rules_laws.specs.steps.GivenUpdate.{suite_by}
use Rattle.testing_rules_laws.specs.steps.SameRows.{AreSaidBy}
use Rattle.testing_rules_model.proofs.Giving.{by-given, given-known}
use Rattle.testing_rules_model.specs.declared.excuse.Excuse.{Excuse}
use Rattle.testing_rules_model.specs.Covered.{Covered}
use Rattle.testing_rules_model.specs.FactLists.{FactLists}
use Rattle.testing_rules_model.specs.Provenance.{IsGivenBy, KnowsArchs}
use Rattle.testing_rules_model.specs.Suite.{Suite}

pub facts_give_update : (archs : List Text) (s : Covered) (f : FactLists) (excuses : List Excuse) (old : Suite) → length archs ≤ 16 → AreSaidBy f s
    → IsGivenBy archs s old (suite_by archs f excuses old) × (KnowsArchs archs old.rows → KnowsArchs archs (suite_by archs f excuses old).rows)
facts_give_update archs s f excuses old few said =
    let given = by-given archs s f.sources f.rows f.hints f.unhints excuses old few said.sources said.rows in
    (given, given-known archs s old (suite_by archs f excuses old) given)
