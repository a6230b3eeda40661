use Rattle.std.proofs.Common.{◌≡◌}
use Rattle.office_core_outcome.proofs.hint_trials.hints_apart.Given as goal

abbrev pub invariant-turns : goal.invariant-turns
invariant-turns l = l.testing ≡ l.fn.testing
