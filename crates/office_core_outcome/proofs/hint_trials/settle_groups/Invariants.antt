use Rattle.std.proofs.Common.{◌≡◌}
use Rattle.office_core_outcome.proofs.hint_trials.settle_groups.Given as goal

abbrev pub invariant-rounds : goal.invariant-rounds
invariant-rounds l = l.testing ≡ l.fn.testing
