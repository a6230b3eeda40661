use Rattle.std.proofs.Common.{◌≡◌, take, map, filter}
use Rattle.testing_rules_model.specs.declared.excuse.Excuse.{Excuse}
use Rattle.testing_rules_refusals.specs.steps.Standing.{lives_beside}
use Rattle.testing_rules_refusals.proofs.living.living_beside.Given as goal

-- those so far
abbrev pub invariant-loop-excuse : goal.invariant-loop-excuse
invariant-loop-excuse l = l.names.items ≡ map (λ (e : Excuse). e.source) (filter (lives_beside l.testing l.dead.keys) (take l.excuse-index l.excuses))
