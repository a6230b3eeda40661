use Rattle.testing_install.specs.Closed.{marked}
use Rattle.testing_install_why.proofs.Showing.{shown}
use Rattle.testing_install_why.proofs.shown.certificate_over.Goals as goal

pub returns-clause-some : goal.returns-clause-some
returns-clause-some c =
    shown c.args.suite.now.rows (marked c.args.suite.now.there) c.in_ok-order.order.items c.in_ok-steps.steps.items c.in-Some.last c.args.place c.in_ok-order.ensures.groundless (rw c.deref.ensures.value at c.in-Some.ensures.some) (rw c.deref-2.ensures.value at c.in_ok-steps.ensures)
