use Rattle.std.proofs.Common.{◌≡◌, sym, subst, ◌∙◌}
use Rattle.testing_rules_model.specs.StandsFor.{StandsFor}
use Rattle.testing_rules_model.specs.Suite.{Suite}
use Rattle.office_core_outcome.specs.steps.RuleSteps.{IsRuled}
use Rattle.office_core_outcome.specs.Trial.{judged_by}
use Rattle.office_core_outcome.specs.WhyRefused.{AreReasons}
use Rattle.office_core_outcome.proofs.decisions.tell_run.Goals as goal

pub returns-clause-ok : goal.returns-clause-ok
returns-clause-ok c = λ s stands.
    let a = c.args in
    let setup = a.setup.now in
    let facts = a.facts.now in
    let tried = a.tried.now in
    let t : Suite = a.testing.now in
    let new : Suite = c.judge_run.new.testing in
    let r = c.in_ok-ruled.ruled in
    let shared : c.in_ok-after.after ≡ t = c.in_ok-after.ensures.shared in
    let stays : c.keep_suites.new.before ≡ t = c.in_ok-keep_suites.ensures ∙ c.in_ok-after.ensures.same in
    let ruled : IsRuled setup tried.date s t r new = subst (λ (old : Suite). IsRuled setup tried.date s old r new) shared (c.in_ok-ruled.ensures s (subst (StandsFor facts s) (sym shared) stands)) in
    record {
      decided_is = c.in_ok-decided.ensures s t ruled;
      reasons_are = subst (λ (old : Suite). AreReasons (judged_by setup tried.behind tried.date s old) c.in_ok-reasons.reasons) stays
          (c.in_ok-reasons.ensures s tried.date new (subst (StandsFor facts s) (sym stays) stands) (subst (λ (old : Suite). IsRuled setup tried.date s old r new) (sym stays) ruled));
    }
