use Rattle.std.proofs.Common.{arith, length, ap}
use Rattle.testing_install.proofs.Needing.{noted_none, noted_clause, noted_clauses}
use Rattle.testing_install.proofs.dependents.note_needs.Goals as goal

pub loop-clause-init : goal.loop-clause-init
loop-clause-init c = noted_none _ _

pub loop-clause-preserved : goal.loop-clause-preserved
loop-clause-preserved c =
    noted_clause _ _ _ _ _ _ _ _ c.as_slice-clause-items.ensures c.loop-clause-test.true c.clause-item.is c.loop-clause.invariant c.in_ok-note_clause.ensures

pub returns : goal.returns
returns c =
    let long = ap length c.as_slice-clause-items.ensures in
    noted_clauses c.args.binary.now _ _ _ c.loop-clause.clause-index (omega arith) c.loop-clause.invariant
