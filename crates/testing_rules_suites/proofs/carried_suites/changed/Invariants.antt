use Rattle.testing_rules_suites.proofs.Suites.{AreChangedTo}
use Rattle.testing_rules_suites.proofs.carried_suites.changed.Given as goal

-- the suites of the first architectures are changed
abbrev pub invariant-loop-arch : goal.invariant-loop-arch
invariant-loop-arch l = AreChangedTo l.fn.suites.items l.suites.items l.change.leaving.items l.change.coming.items l.arch
