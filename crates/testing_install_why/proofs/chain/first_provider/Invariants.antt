use Rattle.testing_install_why.specs.steps.Providers.{IsLeast}
use Rattle.testing_install_why.proofs.MarkedSteps.{IsNamedTo}
use Rattle.testing_install_why.proofs.chain.first_provider.Given as goal

abbrev pub invariant-loop-alternative : goal.invariant-loop-alternative
invariant-loop-alternative l = IsLeast l.suite.rows l.order l.end l.clause l.least (IsNamedTo l.noted l.clause l.alternative-index)
