use Rattle.std.proofs.Common.{◌≡◌, sym, arith}
use Rattle.std.proofs.lemmas.Option.{slice_get-get_or}
use Rattle.testing_install_why.proofs.Picking.{pick_none, pick_more, pick_out, pick_all}
use Rattle.testing_install_why.proofs.needed.picked.Goals as goal
use Rattle.testing_install_why.proofs.needed.picked.Goals.{then-needed-number+in_ok-push, else-needed-number}

pub loop-number-init : goal.loop-number-init
loop-number-init c = λ rows n. rw (c.new-steps.ensures.items) (pick_none rows _ _)

pub loop-number-preserved : goal.loop-number-preserved
loop-number-preserved c = λ rows need. elim c.if-needed-number.branch [
  | then-needed-number+in_ok-push w ↦
      rw (w.steps-is, w.in_ok-push.ensures.items) (pick_more rows c.args.order.now c.args.needed.now c.args.last c.loop-number.number c.loop-number.steps.items _ need (omega (arith, c.loop-number-test.true)) (slice_get-get_or c.args.order.now c.loop-number.number (record { place = 0; need = 0 }) (omega (arith, c.requires.last, c.loop-number-test.true))) w.if-needed-number.true (c.loop-number.invariant rows need))
  | else-needed-number w ↦ rw (w.steps-is) (pick_out rows c.args.order.now c.args.needed.now c.loop-number.number c.loop-number.steps.items w.if-needed-number.false (c.loop-number.invariant rows need))
]

pub returns : goal.returns
returns c = λ rows need.
    let end : c.loop-number.number ≡ c.args.last = omega (arith, c.loop-number-test.false, c.loop-number.auto.number-end) in
    rw (c.in_ok-push-2.ensures.items) (pick_all rows c.args.order.now c.args.needed.now c.args.last c.loop-number.steps.items _ need (slice_get-get_or c.args.order.now c.args.last (record { place = 0; need = 0 }) c.requires.last) (rw (sym end) (c.loop-number.invariant rows need)))
