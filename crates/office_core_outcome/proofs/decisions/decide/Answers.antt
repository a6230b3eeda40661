use Rattle.std.proofs.Common.{sym, subst}
use Rattle.testing_rules_model.specs.StandsFor.{StandsFor}
use Rattle.testing_rules_model.specs.Suite.{Suite}
use Rattle.office_core_outcome.specs.steps.RuleSteps.{IsRuled}
use Rattle.office_core_outcome.proofs.decisions.decide.Goals as goal

pub returns-clause-ok : goal.returns-clause-ok
returns-clause-ok c = λ s stands.
    let a = c.args in
    let t : Suite = a.testing.now in
    let shared = c.in_ok-left.ensures.shared in
    c.in_ok-decided.ensures s t
    (subst (λ (old : Suite). IsRuled a.setup.now a.date s old c.in_ok-ruled.ruled c.judge_run.new.testing) shared (c.in_ok-ruled.ensures s (subst (StandsFor a.facts.now s) (sym shared) stands)))
