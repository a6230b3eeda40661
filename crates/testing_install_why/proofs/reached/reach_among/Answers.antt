use Rattle.std.proofs.Common.{sym, ◌∙◌, arith}
use Rattle.std.proofs.lemmas.List.{get_or_default}
use Rattle.testing_install_why.proofs.Reaching.{reached_more, reached_stays, shut_off, shut_misses}
use Rattle.testing_install_why.proofs.reached.reach_among.Goals as goal
use Rattle.testing_install_why.proofs.reached.reach_among.Goals.{then-unreached-place+then-meets+in_ok-push, else-unreached-place, else-unreached-place-via-then-unreached-place+else-meets, else-unreached-place-via-else-unreached-place}

pub loop-place-preserved : goal.loop-place-preserved
loop-place-preserved c =
    let rows = c.args.suite.now.rows in
    let clause = c.args.clause.now in
    let mid = c.loop-place.unreached in
    let at = get_or_default c.args.places.now c.loop-place.place-index 0 _ c.loop-place-test.true in
    elim c.if-unreached-place.branch [
      | then-unreached-place+then-meets+in_ok-push w ↦ rw (w.unreached-is, w.reached-is, w.in_ok-push.ensures.items) (reached_more rows clause c.args.places.now c.args.unreached.now mid _ _ _ _ c.loop-place.invariant c.loop-place-test.true at (omega arith) w.if-unreached-place.true)
      | else-unreached-place w ↦ rw (w.unreached-is, w.reached-is) (elim w.else-unreached-place.branch [
        | else-unreached-place-via-then-unreached-place+else-meets v ↦ reached_stays rows clause c.args.places.now c.args.unreached.now mid _ _ _ _ c.loop-place.invariant c.loop-place-test.true at (shut_misses rows clause mid _ _ v.binary.ensures (sym v.meets.ensures ∙ v.if-meets.false))
        | else-unreached-place-via-else-unreached-place v ↦ reached_stays rows clause c.args.places.now c.args.unreached.now mid _ _ _ _ c.loop-place.invariant c.loop-place-test.true at (shut_off rows clause mid _ v.if-unreached-place.false)
      ])
    ]
