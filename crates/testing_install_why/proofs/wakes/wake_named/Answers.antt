use Rattle.testing_install_why.proofs.Woken.{woken_named}
use Rattle.testing_install_why.proofs.wakes.wake_named.Goals as goal

pub returns-clause-woken : goal.returns-clause-woken
returns-clause-woken c = woken_named c.args.suite.now.rows _ _ _ c.in_ok-wake_among.ensures.woken c.dependents.ensures.complete
