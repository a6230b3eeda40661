use Rattle.std.proofs.Common.{arith, length, ap}
use Rattle.testing_install.proofs.Indexing.{IsAdded, added_at}
use Rattle.testing_install.proofs.Needing.{noted_none, noted_alternative, noted_alternatives}
use Rattle.testing_install.proofs.dependents.note_clause.Goals as goal

pub loop-alternative-init : goal.loop-alternative-init
loop-alternative-init c = noted_none _ _

pub loop-alternative-preserved : goal.loop-alternative-preserved
loop-alternative-preserved c =
    let added : IsAdded c.loop-alternative.dependents c.note.new.self c.as_str.result.now c.args.place = c.in_ok-note.ensures in
    noted_alternative _ _ _ _ _ _ _ _ c.as_slice-alternative-items.ensures c.loop-alternative-test.true c.alternative-item.is c.loop-alternative.invariant (added_at _ _ _ _ _ c.as_str.ensures added)

pub returns : goal.returns
returns c =
    let long = ap length c.as_slice-alternative-items.ensures in
    noted_alternatives _ _ _ _ c.loop-alternative.alternative-index (omega arith) c.loop-alternative.invariant
