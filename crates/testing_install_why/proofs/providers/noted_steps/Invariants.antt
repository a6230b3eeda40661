use Rattle.testing_install_why.proofs.MarkedSteps.{IsStepIndexTo}
use Rattle.testing_install_why.proofs.providers.noted_steps.Given as goal

-- what is noted so far
abbrev pub invariant-loop-number : goal.invariant-loop-number
invariant-loop-number l = IsStepIndexTo l.suite.rows l.order l.noted l.number
