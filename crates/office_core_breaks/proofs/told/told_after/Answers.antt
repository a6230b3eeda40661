use Rattle.std.proofs.Common.{◌∙◌}
use Rattle.std.proofs.lemmas.Result.{IfOk-weaker}
use Rattle.testing_rules_model.specs.Covered.{Covered}
use Rattle.testing_rules_model.specs.StandsFor.{StandsFor}
use Rattle.testing_rules_model.specs.Unstable.{built_rows}
use Rattle.office_core_breaks.specs.Told.{IsTold, IsToldOf}
use Rattle.office_core_breaks.proofs.BreaksFacts.{told_over}
use Rattle.office_core_breaks.proofs.told.told_after.Goals as goal

pub returns-clause-told : goal.returns-clause-told
returns-clause-told c =
    let a = c.args in
    let asked = a.asked.now in
    let archs = a.archs.now in
    let f = a.facts.now in
    let t = a.testing.now in
    let es = c.as_slice.result.now in
    IfOk-weaker c.told_by.result
    (IsToldOf archs f.sources (built_rows archs f.rows) es t asked.run asked.question.now)
    (λ text. (s : Covered) → StandsFor f s t → IsTold archs s t asked.run asked.date asked.question.now text)
    (λ text told s stands. told_over archs f s t es asked.run asked.date asked.question.now text stands (c.as_slice.ensures ∙ c.in_ok-excuses.ensures s stands) told)
    c.told_by.ensures.told
