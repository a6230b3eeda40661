use Rattle.std.proofs.Common.{◌≡◌, ◌∙◌, map, filter}
use Rattle.std.proofs.lemmas.Result.{IfOk-weaker}
use Rattle.testing_rules_model.specs.declared.excuse.Excuse.{Excuse}
use Rattle.testing_rules_refusals.specs.steps.Standing.{lives_beside}
use Rattle.testing_rules_refusals.specs.Stuck.{living}
use Rattle.testing_rules_refusals.proofs.Blocks.{living_alike}
use Rattle.testing_rules_refusals.proofs.living.living.Goals as goal

pub returns : goal.returns
returns c =
    let a = c.args in
    let keys = c.in_ok-dead.dead.keys in
    IfOk-weaker c.living_beside.result (λ names. names.items ≡ map (λ (e : Excuse). e.source) (filter (lives_beside a.testing.now keys) a.excuses.now))
    (λ names. names.items ≡ living a.excuses.now a.testing.now a.dead.now)
    (λ names h. h ∙ living_alike a.excuses.now a.testing.now a.dead.now keys c.in_ok-dead.ensures) c.living_beside.ensures
