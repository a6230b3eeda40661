use Rattle.testing_install_why.proofs.Naming.{IsNamedTo}
use Rattle.testing_install_why.proofs.order.named_by.Given as goal

abbrev pub invariant-loop-alternative : goal.invariant-loop-alternative
invariant-loop-alternative l = IsNamedTo l.suite.rows l.places.items l.clause l.alternative-index
