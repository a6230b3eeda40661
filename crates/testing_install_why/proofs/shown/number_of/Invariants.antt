use Rattle.testing_install_why.proofs.Showing.{IsNotBelow}
use Rattle.testing_install_why.proofs.shown.number_of.Given as goal

abbrev pub invariant-loop-number : goal.invariant-loop-number
invariant-loop-number l = IsNotBelow l.steps l.place l.number
