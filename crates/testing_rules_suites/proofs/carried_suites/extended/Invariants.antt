use Rattle.std.specs.Vec.Iter.{into_iter_items}
use Rattle.testing_rules_suites.proofs.Extending.{AreExtendedTo}
use Rattle.testing_rules_suites.proofs.carried_suites.extended.Given as goal

-- the suites of the first architectures are extended
abbrev pub invariant-loop-suite : goal.invariant-loop-suite
invariant-loop-suite l = AreExtendedTo l.fn.suites.items l.extended.items (into_iter_items l.suite-iterator) l.pool l.from l.arch
