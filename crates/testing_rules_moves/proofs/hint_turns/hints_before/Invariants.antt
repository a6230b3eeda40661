use Rattle.std.proofs.Common.{◌≡◌, take}
use Rattle.testing_rules_moves.specs.steps.Turns.{hints_before}
use Rattle.testing_rules_moves.proofs.hint_turns.hints_before.Given as goal

-- those so far
abbrev pub invariant-loop-hint : goal.invariant-loop-hint
invariant-loop-hint l = l.earlier.items ≡ hints_before l.number (take l.hint-index l.hints)
