use Rattle.std.proofs.Common.{◌∙◌}
use Rattle.std.proofs.lemmas.Result.{IfOk-weaker}
use Rattle.testing_rules_model.specs.Covered.{Covered}
use Rattle.testing_rules_model.specs.StandsFor.{StandsFor}
use Rattle.office_core_why.specs.steps.Telling.{unstable_of}
use Rattle.office_core_why.specs.Why.{IsToldBy, IsToldOf}
use Rattle.office_core_why.proofs.WhyFacts.{told_over}
use Rattle.office_core_why.proofs.told.lines_after_run.Goals as goal

pub returns-clause-told : goal.returns-clause-told
returns-clause-told c =
    let a = c.args in
    let input = a.input.now in
    let asked = a.asked.now in
    let f = input.facts.now in
    let t = a.testing.now in
    let es = c.as_slice.result.now in
    IfOk-weaker c.lines_from_excuses.result
    (IsToldBy input.senders.now input.archs.now (unstable_of input.archs.now f) t es asked.run a.reports.now asked.source.now)
    (λ text. (s : Covered) → StandsFor f s t → IsToldOf input.senders.now input.archs.now s t asked.run asked.date a.reports.now asked.source.now text)
    (λ text told s stands. told_over input.senders.now input.archs.now f s t es asked.run asked.date a.reports.now asked.source.now text stands (c.as_slice.ensures ∙ c.in_ok-excuses.ensures s stands) told)
    c.lines_from_excuses.ensures.told
