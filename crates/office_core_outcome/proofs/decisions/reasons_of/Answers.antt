use Rattle.std.proofs.Common.{◌≡◌, List, ap, ◌∙◌}
use Rattle.std.proofs.lemmas.Result.{IfOk-weaker}
use Rattle.jiff_core.specs.declared.civil.date.Date.{Date}
use Rattle.testing_rules_model.specs.Covered.{Covered}
use Rattle.testing_rules_model.specs.Excuses.{excuses_of}
use Rattle.testing_rules_model.specs.StandsFor.{StandsFor}
use Rattle.testing_rules_model.specs.Suite.{Suite}
use Rattle.testing_rules_model.specs.declared.excuse.Excuse.{Excuse}
use Rattle.testing_rules_model.specs.declared.update.Decision.{Decision}
use Rattle.office_core_replies.specs.Replies.{name_at}
use Rattle.office_core_facts.specs.Seen.{release}
use Rattle.office_core_outcome.specs.steps.RuleSteps.{IsRuled}
use Rattle.office_core_outcome.specs.Trial.{judged_by}
use Rattle.office_core_outcome.specs.WhyRefused.{AreFirstTold, AreReasons}
use Rattle.office_core_outcome.proofs.RefusalFacts.{decisions_are, judged_over, reasons_by}
use Rattle.office_core_outcome.proofs.decisions.reasons_of.Goals as goal

pub returns : goal.returns
returns c =
    let a = c.args in
    let setup = a.setup.now in
    let t : Suite = a.testing.now in
    let facts = a.facts.now in
    let sender = c.name_at-sender.result.now in
    let archs = c.archs-archs.result.now in
    let es : List Excuse = c.as_slice-excuses.result.now in
    let ds : List Decision = c.as_slice-decisions.result.now in
    let named : sender ≡ name_at setup (release setup) = c.name_at-sender.ensures ∙ ap (name_at setup) c.release_place.ensures in
    IfOk-weaker c.told_of_first.result
    (AreFirstTold (judged_over sender a.behind archs facts es t) ds)
    (λ text. (s : Covered) (date : Date) (new : Suite) → StandsFor facts s t → IsRuled setup date s t a.ruled.now new → AreReasons (judged_by setup a.behind date s t) text)
    (λ text told s date new stands is.
    let made : es ≡ excuses_of setup.archs s t date = c.as_slice-excuses.ensures ∙ is.excuses in
    reasons_by setup a.behind date s t facts stands sender archs es named c.archs-archs.ensures.same made ds text (c.as_slice-decisions.ensures ∙ decisions_are setup date s t new a.ruled.now is) told)
    c.told_of_first.ensures
