use Rattle.testing_install_why.proofs.Reaching.{AreReachedTo}
use Rattle.testing_install_why.proofs.reached.reach_from.Given as goal

abbrev pub invariant-loop-clause : goal.invariant-loop-clause
invariant-loop-clause l = AreReachedTo l.suite.rows l.binary.clauses l.initial.unreached l.unreached l.initial.reached.items l.reached.items l.clause-index
