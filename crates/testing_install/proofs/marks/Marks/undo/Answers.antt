use Rattle.std.proofs.Common.{arith}
use Rattle.testing_install.proofs.Marking.{last_touched, tracked_undo_by, undone_is}
use Rattle.testing_install.proofs.marks.Marks.undo.Goals as goal

pub index-requires : goal.index-requires
index-requires c = omega (arith, last_touched _ _ _ _ _ c.loop-place.invariant.tracked c.in-Some.ensures.items, c.loop-place.invariant.tracked.long, c.loop-place.self-inside.kept.ok.0)

pub index_mut-requires : goal.index_mut-requires
index_mut-requires c = omega (arith, last_touched _ _ _ _ _ c.loop-place.invariant.tracked c.in-Some.ensures.items, c.loop-place.invariant.tracked.long, c.loop-place.self-inside.current.ok.0)

pub loop-place-preserved : goal.loop-place-preserved
loop-place-preserved c = record {
  tracked = tracked_undo_by _ _ _ _ _ _ c.loop-place.invariant.tracked c.in-Some.ensures.items c.index.ensures;
  same = c.loop-place.invariant.same;
}

pub returns : goal.returns
returns c = undone_is _ _ c.loop-place.self-inside.touched.items c.args.self.now c.loop-place.invariant.tracked (omega (arith, c.in_default.ensures.cases, c.loop-place.self-inside.touched.ok.0)) c.loop-place.invariant.same
