use Rattle.std.proofs.Common.{◌<◌, ℕ, slice_index, length, ap, ◌∙◌, sym, arith}
use Rattle.office_core_queries.proofs.StatedFacts.{stated_found, stated_skipped}
use Rattle.office_core_queries.proofs.covers.stated_covers.Goals as goal
use Rattle.office_core_queries.proofs.covers.stated_covers.Goals.{then-number-gt0+in_ok-push, else-number-gt0}

pub senders-preserved : goal.senders-preserved
senders-preserved c =
    let covers : ℕ → ℕ = slice_index c.args.covers.now in
    let n = c.senders.sender in
    let all = ap length c.senders-sender-end.ensures.same in
    let lt : n < length c.args.setup.now.senders = omega (arith, c.senders-test.true, all) in
    elim c.if-number-gt0.branch [
      | then-number-gt0+in_ok-push w ↦
          stated_found covers n c.senders.stated.items c.if-number-gt0.stated.items _ (ap (λ v. v.items) w.stated-is ∙ w.in_ok-push.ensures.items) c.senders.invariant
          (omega (arith, lt, all, c.senders-sender-end.ensures.few)) c.number_at-number.ensures (omega (arith, w.if-number-gt0.true))
      | else-number-gt0 w ↦
          ap (λ v. v.items) w.stated-is ∙ c.senders.invariant ∙ sym (stated_skipped covers n c.number_at-number.result c.number_at-number.ensures (omega (arith, w.if-number-gt0.false)))
    ]
