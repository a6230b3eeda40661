use Rattle.std.specs.List.{AllWithin}
use Rattle.testing_install.specs.Closed.{IsMet, marked}
use Rattle.testing_install_why.proofs.order.unmet.Given as goal

abbrev pub invariant-loop-need : goal.invariant-loop-need
invariant-loop-need l = AllWithin (IsMet l.suite.rows (marked l.left)) l.binary.clauses 0 l.need
