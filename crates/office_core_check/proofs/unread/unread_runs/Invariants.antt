use Rattle.office_core_check.specs.steps.Unread.{Asks}
use Rattle.office_core_check.proofs.unread.unread_runs.Given as goal

abbrev pub invariant-runs : goal.invariant-runs
invariant-runs g l = Asks g.K.Keeper l.fn.keeper l.keeper
