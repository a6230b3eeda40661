use Rattle.std.proofs.Common.{◌≡◌, IfOk, sym, subst, ◌∙◌}
use Rattle.std.proofs.lemmas.Result.{IfOk-weaker}
use Rattle.testing_rules_model.specs.Covered.{Covered}
use Rattle.testing_rules_model.specs.StandsFor.{StandsFor}
use Rattle.testing_rules_model.specs.Suite.{Suite}
use Rattle.office_core_outcome.specs.HintTold.{IsHintText}
use Rattle.office_core_outcome.specs.steps.RuleSteps.{IsRuled}
use Rattle.office_core_outcome.proofs.hint_texts.told_over.Goals as goal

pub returns-clause-told : goal.returns-clause-told
returns-clause-told c =
    let a = c.args in
    let setup = a.setup.now in
    let facts = a.facts.now in
    let asked = a.asked in
    let t : Suite = a.testing.now in
    let new : Suite = c.judge_run.new.testing in
    let r = c.in_ok-ruled.ruled in
    let shared : c.in_ok-after.after ≡ t = c.in_ok-after.ensures.shared in
    let stays : c.keep_suites.new.before ≡ t = c.in_ok-keep_suites.ensures ∙ c.in_ok-after.ensures.same in
    IfOk-weaker c.told_by.result
    (λ told. (s : Covered) (left : Suite) → StandsFor facts s t → IsRuled setup asked.date s t r left → IsHintText setup asked.run asked.date s t asked.number told)
    (λ told. (s : Covered) → StandsFor facts s t → IsHintText setup asked.run asked.date s t asked.number told)
    (λ told is s stands. is s new stands (subst (λ (old : Suite). IsRuled setup asked.date s old r new) shared (c.in_ok-ruled.ensures s (subst (StandsFor facts s) (sym shared) stands))))
    (subst (λ (old : Suite). IfOk c.told_by.result (λ told. (s : Covered) (left : Suite) → StandsFor facts s old → IsRuled setup asked.date s old r left → IsHintText setup asked.run asked.date s old asked.number told)) stays c.told_by.ensures)
