use Rattle.std.proofs.Common.{arith, ap, length}
use Rattle.testing_install.proofs.Finding.{IsUnsatisfied, within_places, unsatisfied, unmet}
use Rattle.testing_install.proofs.Places.{read_more}
use Rattle.testing_install.proofs.Sharing.{length-shared}
use Rattle.testing_install.specs.Closed.{marked}
use Rattle.testing_install.specs.Rows.{shared}
use Rattle.testing_install.proofs.graph.is_met.Goals as goal

pub is_satisfied-requires-clause-places : goal.is_satisfied-requires-clause-places
is_satisfied-requires-clause-places c = within_places _ _ _ _ c.places-named.ensures (length-shared c.args.graph.now.rows.items) (c.requires.graph.borne.within c.as_str.result.now)

pub loop-alternative-preserved : goal.loop-alternative-preserved
loop-alternative-preserved c =
    read_more (IsUnsatisfied (shared c.args.graph.now.rows.items) (marked c.args.marks.now)) _ _ _ _ c.as_slice-alternative-items.ensures c.loop-alternative-test.true c.alternative-item.is c.loop-alternative.invariant
    (unsatisfied _ _ _ _ _ _ c.requires.graph.borne c.places-named.ensures c.as_str.ensures (c.is_satisfied.ensures.no c.if-is_satisfied.false))

pub returns-clause-no : goal.returns-clause-no
returns-clause-no c =
    let long = ap length c.as_slice-alternative-items.ensures in
    λ _. unmet _ _ _ c.loop-alternative.alternative-index c.loop-alternative.invariant (omega arith)
