use Rattle.std.proofs.Common.{◌≡◌, take, filter}
use Rattle.testing_rules_model.specs.Unstable.{is_in_force}
use Rattle.testing_rules_excuses.proofs.run_excuses.hints_left.Given as goal

-- those so far
abbrev pub invariant-loop-hint : goal.invariant-loop-hint
invariant-loop-hint l = l.in_force.items ≡ filter (is_in_force l.unhints) (take l.hint-index l.hints)
