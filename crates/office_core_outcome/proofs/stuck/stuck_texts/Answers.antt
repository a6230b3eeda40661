use Rattle.std.proofs.Common.{◌≡◌, ◌∙◌, List, subst}
use Rattle.std.proofs.lemmas.Result.{IfOk-weaker}
use Rattle.testing_rules_items.specs.Words.{Text}
use Rattle.testing_rules_model.specs.Covered.{Covered}
use Rattle.testing_rules_model.specs.Excuses.{excuses_of}
use Rattle.testing_rules_model.specs.StandsFor.{StandsFor}
use Rattle.testing_rules_model.specs.Suite.{Suite}
use Rattle.testing_rules_model.specs.Unstable.{built_rows}
use Rattle.testing_rules_model.specs.declared.excuse.Excuse.{Excuse}
use Rattle.testing_rules_moves.specs.steps.Turns.{behind_hints}
use Rattle.office_core_outcome.specs.steps.Settled.{AreAnswersBehind, AreAnswersOver}
use Rattle.office_core_outcome.proofs.StuckFacts.{answers_over}
use Rattle.office_core_outcome.proofs.stuck.stuck_texts.Goals as goal

pub returns : goal.returns
returns c =
    let a = c.args.asked.now in
    let archs : List Text = c.archs-archs.result.now in
    let facts = a.facts.now in
    let t = c.args.testing.now in
    let es : List Excuse = c.as_slice-list.result.now in
    let behind : Suite = c.in_ok-behind.behind in
    let ds = c.args.decisions.now in
    let made : (s : Covered) → StandsFor facts s t → es ≡ excuses_of archs s t a.date = λ s stands. c.as_slice-list.ensures ∙ c.in_ok-excuses.ensures s stands in
    let is : behind ≡ behind_hints archs facts.sources (built_rows archs facts.rows) es facts.hints facts.unhints t = c.in_ok-behind.ensures in
    IfOk-weaker c.each_stuck.result (λ texts. AreAnswersBehind archs facts es behind ds a.sources.now texts.items) (λ texts. AreAnswersOver a.setup.now.archs a.date facts t ds a.sources.now texts.items)
    (λ texts so. subst (λ (names : List Text). AreAnswersOver names a.date facts t ds a.sources.now texts.items) c.archs-archs.ensures.same (answers_over archs a.date facts t es behind ds made is a.sources.now texts.items so))
    c.each_stuck.ensures
