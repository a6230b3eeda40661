use Rattle.std.proofs.Common.{◌≤◌, ◌+◌}
use Rattle.testing_install_why.specs.steps.Needed.{IsNeeded}
use Rattle.testing_install_why.proofs.needed.needed_by.Given as goal

abbrev pub invariant-loop-number : goal.invariant-loop-number
invariant-loop-number l = IsNeeded l.suite.rows l.order l.needed.items l.last l.number × (l.number ≤ l.last + 1)

abbrev pub decreases-loop-number : goal.decreases-loop-number
decreases-loop-number l = l.number
