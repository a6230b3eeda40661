use Rattle.std.proofs.Common.{arith, ◌∙◌}
use Rattle.std.proofs.lemmas.List.{get_or_default}
use Rattle.testing_install.proofs.Reviving.{revived_more}
use Rattle.testing_install.specs.Closed.{marked}
use Rattle.testing_install.proofs.change.revive_among.Goals as goal

pub loop-place-preserved : goal.loop-place-preserved
loop-place-preserved c = record {
  revived = revived_more (marked c.args.there.now) _ _ _ _ _ _ _ _ _ c.loop-place.invariant.revived c.in_ok-revive_one.ensures.revived c.loop-place-test.true (get_or_default c.args.places.now c.loop-place.place-index _ _ c.loop-place-test.true);
  long = c.in_ok-revive_one.ensures.long;
  kept = c.in_ok-revive_one.ensures.kept ∙ c.loop-place.invariant.kept;
  measure = omega (arith, c.in_ok-revive_one.ensures.measure, c.loop-place.invariant.measure);
}
