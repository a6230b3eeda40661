use Rattle.testing_install_why.proofs.Reaching.{clauses_more}
use Rattle.testing_install_why.proofs.reached.reach_from.Goals as goal

pub loop-clause-preserved : goal.loop-clause-preserved
loop-clause-preserved c =
    clauses_more c.args.suite.now.rows c.args.binary.now.clauses _ _ _ _ _ _ _ _ _ c.loop-clause.invariant c.as_slice-clause-items.ensures c.loop-clause-test.true c.clause-item.is c.in_ok-reach_by.ensures.grown c.in_ok-reach_by.ensures.shut
