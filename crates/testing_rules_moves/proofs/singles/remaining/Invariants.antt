use Rattle.std.proofs.Common.{◌≡◌, take, filter}
use Rattle.testing_rules_moves.specs.steps.LentItems.{lent_excuses}
use Rattle.testing_rules_model.specs.Updates.{is_remaining}
use Rattle.testing_rules_moves.proofs.singles.remaining.Given as goal

-- those so far
abbrev pub invariant-loop-excuse : goal.invariant-loop-excuse
invariant-loop-excuse l = lent_excuses l.candidates.items ≡ filter (is_remaining l.testing.suite) (take l.excuse-index l.excuses)
