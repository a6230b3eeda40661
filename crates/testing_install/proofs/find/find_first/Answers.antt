use Rattle.std.proofs.Common.{arith, ap, length}
use Rattle.testing_install.proofs.Finding.{IsUnsatisfied, within_places, unsatisfied, unmet}
use Rattle.testing_install.proofs.Places.{read_more, length-binaries}
use Rattle.testing_install.specs.Closed.{marked}
use Rattle.testing_install.specs.Rows.{binaries}
use Rattle.testing_install.proofs.find.find_first.Goals as goal

pub find_among-requires-clause-places : goal.find_among-requires-clause-places
find_among-requires-clause-places c = within_places _ _ _ _ c.places-named.ensures (length-binaries c.args.rows.now) (c.requires.index.within c.as_str.result.now)

pub loop-alternative-preserved : goal.loop-alternative-preserved
loop-alternative-preserved c =
    read_more (IsUnsatisfied (binaries c.args.rows.now) (marked c.args.marks.now)) _ _ _ _ c.as_slice-alternative-items.ensures c.loop-alternative-test.true c.alternative-item.is c.loop-alternative.invariant
    (unsatisfied _ _ _ _ _ _ c.requires.index c.places-named.ensures c.as_str.ensures c.in_default.ensures.none)

pub returns-clause-none : goal.returns-clause-none
returns-clause-none c =
    let long = ap length c.as_slice-alternative-items.ensures in
    unmet _ _ _ c.loop-alternative.alternative-index c.loop-alternative.invariant (omega arith)
