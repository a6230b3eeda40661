use Rattle.std.proofs.Common.{arith, ◌∙◌}
use Rattle.testing_install.proofs.Needing.{dependent_found}
use Rattle.testing_install.proofs.Sharing.{shared_at, length-shared}
use Rattle.testing_install.proofs.Settled.{settling_turn, settling_calm, sized_turn, turn_in}
use Rattle.testing_install.specs.Rows.{shared}
use Rattle.testing_install.proofs.settle.propagate.Goals as goal

pub index-requires : goal.index-requires
index-requires c = omega (arith, turn_in _ _ _ _ _ c.loop-place.invariant.sized c.in-Some.ensures.items, length-shared c.args.graph.now.rows.items, c.args.graph.now.rows.ok.0)

pub look_at_dependents-requires-clause-sized : goal.look_at_dependents-requires-clause-sized
look_at_dependents-requires-clause-sized c = sized_turn _ _ _ _ _ c.loop-place.invariant.sized c.in-Some.ensures.items

pub loop-place-preserved : goal.loop-place-preserved
loop-place-preserved c =
    let rows = shared c.args.graph.now.rows.items in
    let at = shared_at c.args.graph.now.rows.items c.in-Some.place c.index.result.now c.as_ref-row.result.now (omega (arith, turn_in _ _ _ _ _ c.loop-place.invariant.sized c.in-Some.ensures.items, length-shared c.args.graph.now.rows.items)) c.index.ensures c.as_ref-row.ensures in
    record {
      sized = c.in_ok-look_at_dependents.ensures.sized;
      kept = c.in_ok-look_at_dependents.ensures.kept ∙ c.loop-place.invariant.kept;
      step = λ there first s. settling_calm rows there first _ _ _ _ _ (c.in_ok-look_at_dependents.ensures.step there first (settling_turn rows there first _ _ _ _ _ _ _ _ (c.loop-place.invariant.step there first s) c.in-Some.ensures.items at (dependent_found rows _ c.as_ref-row.result.now c.requires.graph.needed)));
    }
