use Rattle.std.proofs.Common.{◌∙◌, ◌+◌, ◌++◌, drop}
use Rattle.testing_install.proofs.Settled.{settling_next, settling_last}
use Rattle.testing_install.specs.Rows.{shared}
use Rattle.testing_install.proofs.settle.check_clauses.Goals as goal

pub loop-place-preserved : goal.loop-place-preserved
loop-place-preserved c = record {
  sized = c.in_ok-look.ensures.sized;
  kept = c.in_ok-look.ensures.kept ∙ c.loop-place.invariant.kept;
  measure = c.in_ok-look.ensures.measure ∙ c.loop-place.invariant.measure;
  step = λ there first more s. c.in_ok-look.ensures.step there first (drop (c.loop-place.place-index + 1) c.args.places.now ++ more) (settling_next (shared c.args.graph.now.rows.items) there first _ _ _ c.args.places.now c.loop-place.place-index _ more c.loop-place-test.true (c.loop-place.invariant.step there first more s));
}

pub returns-clause-step : goal.returns-clause-step
returns-clause-step c = λ there first more s. settling_last (shared c.args.graph.now.rows.items) there first _ _ _ c.args.places.now c.loop-place.place-index _ more c.loop-place-test.false (c.loop-place.invariant.step there first more s)
