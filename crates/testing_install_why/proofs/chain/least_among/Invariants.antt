use Rattle.testing_install_why.specs.steps.Providers.{IsLeast}
use Rattle.testing_install_why.proofs.MarkedSteps.{IsAmongFirst}
use Rattle.testing_install_why.proofs.chain.least_among.Given as goal

abbrev pub invariant-loop-number : goal.invariant-loop-number
invariant-loop-number l = IsLeast l.suite.rows l.order l.end l.clause l.least (IsAmongFirst l.numbers l.number-index)
