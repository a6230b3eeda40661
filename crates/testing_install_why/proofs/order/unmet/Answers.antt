use Rattle.testing_install.proofs.Places.{read_more}
use Rattle.testing_install.specs.Closed.{IsMet, marked}
use Rattle.testing_install_why.proofs.order.unmet.Goals as goal

pub loop-need-preserved : goal.loop-need-preserved
loop-need-preserved c =
    read_more (IsMet c.args.suite.now.rows (marked c.args.left.now)) _ _ _ _ c.as_slice-clause-items.ensures c.loop-need-test.true c.clause-item.is c.loop-need.invariant (c.in_ok-is_met.ensures.yes c.if-not-branch.false)
