use Rattle.std.proofs.Common.{arith}
use Rattle.std.proofs.lemmas.List.{get_or_default}
use Rattle.testing_install_why.proofs.Woken.{woken_more, woken_stays}
use Rattle.testing_install_why.proofs.wakes.wake_among.Goals as goal
use Rattle.testing_install_why.proofs.wakes.wake_among.Goals.{then-held-place+in_ok-push, else-held-place}

pub loop-place-preserved : goal.loop-place-preserved
loop-place-preserved c =
    let mid = c.loop-place.held in
    let at = get_or_default c.args.places.now c.loop-place.place-index 0 _ c.loop-place-test.true in
    elim c.if-held-place.branch [
      | then-held-place+in_ok-push w ↦ rw (w.held-is, w.waiting-is, w.in_ok-push.ensures.items) (woken_more c.args.places.now c.args.held.now mid _ _ _ _ c.loop-place.invariant c.loop-place-test.true at (omega arith) w.if-held-place.true)
      | else-held-place w ↦ rw (w.held-is, w.waiting-is) (woken_stays c.args.places.now c.args.held.now mid _ _ _ _ c.loop-place.invariant c.loop-place-test.true at w.if-held-place.false)
    ]
