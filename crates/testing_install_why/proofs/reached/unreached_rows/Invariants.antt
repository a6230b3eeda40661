use Rattle.testing_install.specs.Closed.{marked}
use Rattle.testing_install_why.specs.steps.Reaching.{IsUnreached}
use Rattle.testing_install_why.proofs.reached.unreached_rows.Given as goal

abbrev pub invariant-loop-place : goal.invariant-loop-place
invariant-loop-place l = IsUnreached l.suite.rows (marked l.suite.there) l.unreached.items l.place
