use Rattle.testing_install.specs.Rows.{binaries}
use Rattle.testing_install_why.proofs.Checked.{AreStepsBelow}
use Rattle.testing_install_why.proofs.checks.are_steps.Given as goal

abbrev pub invariant-loop-number : goal.invariant-loop-number
invariant-loop-number l = AreStepsBelow (binaries l.rows) l.steps l.number
