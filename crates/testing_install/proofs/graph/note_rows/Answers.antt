use Rattle.std.proofs.Common.{arith}
use Rattle.testing_install.proofs.Sharing.{shared_at, length-shared, graph_begun, graph_more, graph_all}
use Rattle.testing_install.proofs.graph.note_rows.Goals as goal

pub loop-place-init : goal.loop-place-init
loop-place-init c = λ old more are long g. graph_begun _ old more _ _ _ are long g

pub loop-place-preserved : goal.loop-place-preserved
loop-place-preserved c = λ old more are long g.
    let at = shared_at c.args.rows.now c.loop-place.place _ c.as_ref-row.result.now (omega (arith, c.loop-place-test.true)) c.index-rows-place.is c.as_ref-row.ensures in
    graph_more _ _ _ _ _ _ _ at (c.loop-place.invariant old more are long g) c.in_ok-note_row.ensures c.in_ok-note_needs.ensures

pub returns : goal.returns
returns c = λ old more are long g. graph_all _ _ _ c.loop-place.place (c.loop-place.invariant old more are long g) (omega (arith, length-shared c.args.rows.now))
