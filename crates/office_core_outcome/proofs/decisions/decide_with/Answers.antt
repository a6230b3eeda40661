use Rattle.std.proofs.lemmas.Result.{IfOk-weaker}
use Rattle.testing_rules_model.specs.Covered.{Covered}
use Rattle.testing_rules_model.specs.StandsFor.{StandsFor}
use Rattle.office_core_facts.specs.Seen.{release}
use Rattle.office_core_outcome.specs.Hints.{with_letters}
use Rattle.office_core_outcome.specs.steps.RuleSteps.{IsToldRun}
use Rattle.office_core_outcome.proofs.decisions.decide_with.Goals as goal

pub returns-clause-ok : goal.returns-clause-ok
returns-clause-ok c =
    let setup = c.args.setup.now in
    let tried = c.args.tried.now in
    let t = c.args.testing.now in
    IfOk-weaker c.tell_run.result
    (λ o. (s : Covered) → StandsFor c.take_all.new.facts s t → IsToldRun setup tried.run tried.date tried.behind s t o)
    (λ o. (s : Covered) → StandsFor c.args.facts.now s t → IsToldRun setup tried.run tried.date tried.behind (with_letters setup (release setup) tried.letters.now s) t o)
    (λ o told s stand. told (with_letters setup (release setup) tried.letters.now s) (c.in_ok-take_all.ensures s t stand))
    c.tell_run.ensures.ok
