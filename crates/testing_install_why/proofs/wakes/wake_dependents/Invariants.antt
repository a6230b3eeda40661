use Rattle.testing_install_why.proofs.Woken.{AreWokenTo}
use Rattle.testing_install_why.proofs.wakes.wake_dependents.Given as goal

abbrev pub invariant-loop-provision : goal.invariant-loop-provision
invariant-loop-provision l = AreWokenTo l.suite.rows l.binary l.fn.held l.held l.fn.waiting.items l.waiting.items l.provision-index
