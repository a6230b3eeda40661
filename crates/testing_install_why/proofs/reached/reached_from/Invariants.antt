use Rattle.std.proofs.Common.{◌+◌, ◌-◌, length}
use Rattle.std.specs.List.{count_by}
use Rattle.testing_install.specs.Closed.{marked}
use Rattle.testing_install_why.proofs.Reaching.{IsTurn}
use Rattle.testing_install_why.proofs.reached.reached_from.Given as goal

abbrev pub invariant-turns : goal.invariant-turns
invariant-turns l = IsTurn l.suite.rows (marked l.suite.there) l.unreached.items l.reached.items l.place l.next

abbrev pub decreases-turns : goal.decreases-turns
decreases-turns l = length l.reached.items + count_by (λ b. b) l.unreached.items - l.next
