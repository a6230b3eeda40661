use Rattle.std.proofs.Common.{arith, drop, ◌+◌, ◌∙◌}
use Rattle.testing_install.proofs.Looking.{work_next, work_all, next_in, length-pairs}
use Rattle.testing_install.proofs.Places.{length-binaries}
use Rattle.testing_install.specs.Rows.{binaries}
use Rattle.testing_install.proofs.work.check_clauses.Goals as goal

pub look-requires-clause-claim : goal.look-requires-clause-claim
look-requires-clause-claim c = omega (arith, next_in _ _ c.args.claims.now _ c.loop-claim-test.true c.loop-claim.invariant.work, length-pairs (binaries c.args.ground.now.rows.now) _ c.requires.ground.claims_are)

pub look-requires-clause-marks : goal.look-requires-clause-marks
look-requires-clause-marks c = c.loop-claim.invariant.work.sound.marks_len ∙ length-binaries c.args.ground.now.rows.now

pub look-requires-clause-resting : goal.look-requires-clause-resting
look-requires-clause-resting c = c.loop-claim.invariant.work.sound.resting_len ∙ length-binaries c.args.ground.now.rows.now

pub loop-claim-preserved : goal.loop-claim-preserved
loop-claim-preserved c = record {
  work = c.in_ok-look.ensures.step (drop (c.loop-claim.claim-index + 1) c.args.claims.now) (work_next _ _ _ _ c.loop-claim-test.true c.loop-claim.invariant.work);
  counted = omega (arith, c.loop-claim.invariant.counted, c.in_ok-look.ensures.counted);
  turns = c.in_ok-look.ensures.turns ∙ c.loop-claim.invariant.turns;
}

pub returns-clause-done : goal.returns-clause-done
returns-clause-done c = work_all _ _ c.args.claims.now c.loop-claim.claim-index c.loop-claim-test.false c.loop-claim.invariant.work

pub returns-clause-counted : goal.returns-clause-counted
returns-clause-counted c = omega (arith, c.loop-claim.invariant.counted)
