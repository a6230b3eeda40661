use Rattle.testing_install_why.proofs.Woken.{IsWokenTo}
use Rattle.testing_install_why.proofs.wakes.wake_among.Given as goal

abbrev pub invariant-loop-place : goal.invariant-loop-place
invariant-loop-place l = IsWokenTo l.places l.fn.held l.held l.fn.waiting.items l.waiting.items l.place-index
