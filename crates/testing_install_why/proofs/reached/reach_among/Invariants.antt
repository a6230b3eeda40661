use Rattle.testing_install_why.proofs.Reaching.{IsReachedTo}
use Rattle.testing_install_why.proofs.reached.reach_among.Given as goal

abbrev pub invariant-loop-place : goal.invariant-loop-place
invariant-loop-place l = IsReachedTo l.suite.rows l.clause l.places l.initial.unreached l.unreached l.initial.reached.items l.reached.items l.place-index
