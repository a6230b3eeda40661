use Rattle.testing_install_why.specs.steps.Needed.{IsMarkedWhere}
use Rattle.testing_install_why.proofs.MarkedSteps.{IsNamedTo}
use Rattle.testing_install_why.proofs.needed.mark_providers.Given as goal

-- what is marked so far
abbrev pub invariant-loop-alternative : goal.invariant-loop-alternative
invariant-loop-alternative l = IsMarkedWhere l.suite.rows l.order l.initial.needed l.needed l.number l.clause (IsNamedTo l.noted l.clause l.alternative-index)
