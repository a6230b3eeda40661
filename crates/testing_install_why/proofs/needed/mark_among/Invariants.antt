use Rattle.testing_install_why.specs.steps.Needed.{IsMarkedWhere}
use Rattle.testing_install_why.proofs.MarkedSteps.{IsAmongFirst}
use Rattle.testing_install_why.proofs.needed.mark_among.Given as goal

-- what is marked so far
abbrev pub invariant-loop-earlier : goal.invariant-loop-earlier
invariant-loop-earlier l = IsMarkedWhere l.suite.rows l.order l.initial.needed l.needed l.number l.clause (IsAmongFirst l.numbers l.earlier-index)
