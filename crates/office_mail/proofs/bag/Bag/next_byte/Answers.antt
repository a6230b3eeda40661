use Rattle.std.proofs.Common.{◌+◌, ◌<◌, drop, refl, vec_len, arith}
use Rattle.std.proofs.lemmas.Result.{IfOk-from_err}
use Rattle.office_mail.proofs.BagFacts.{waits_before, goes_on_same, goes_on_read, goes_on_byte, room_read, room_less, room_byte, room_byte_less}
use Rattle.office_mail.proofs.bag.Bag.next_byte.Goals as goal
use Rattle.office_mail.proofs.bag.Bag.next_byte.Goals.{then-self-len+else-self+else-self-eq-READS+in_ok-refill+else-not-branch, else-self-len}

pub returns-clause-waits : goal.returns-clause-waits
returns-clause-waits g c =
    let bag = c.if-self-len.self-inside in
    record { bytes = drop (bag.at + 1) bag.pending.items; came = waits_before (drop (bag.at + 1) bag.pending.items) (g.R.Feed.left bag.reader) }

pub returns-then-self-clause-goes_on : goal.returns-then-self-clause-goes_on
returns-then-self-clause-goes_on g c = goes_on_same c.args.self.now

pub returns-then-not-branch-clause-goes_on : goal.returns-then-not-branch-clause-goes_on
returns-then-not-branch-clause-goes_on g c =
    rw (← c.self.view_is) (goes_on_read _ _ refl c.refill.ensures.failures c.refill.ensures.calls c.refill.ensures.counts c.refill.ensures.piece (room_read c.self.inside.reads _ _ _ c.self.invariant.1 c.if-self-eq-READS.false c.refill.ensures.few) refl)

pub returns-in_err-refill-clause-goes_on : goal.returns-in_err-refill-clause-goes_on
returns-in_err-refill-clause-goes_on g c =
    rw (← c.self.view_is) (goes_on_read _ _ refl c.refill.ensures.failures c.refill.ensures.calls c.refill.ensures.counts c.refill.ensures.piece (room_read c.self.inside.reads _ _ _ c.self.invariant.1 c.if-self-eq-READS.false c.refill.ensures.few) refl)

pub returns-clause-goes_on : goal.returns-clause-goes_on
returns-clause-goes_on g c =
    elim c.if-self-len.branch [
      | then-self-len+else-self+else-self-eq-READS+in_ok-refill+else-not-branch w ↦ rw (w.self-inside-is, ← c.self.view_is) (goes_on_read _ _ refl w.refill.ensures.failures w.refill.ensures.calls w.refill.ensures.counts w.refill.ensures.piece (room_read c.self.inside.reads _ _ _ c.self.invariant.1 w.if-self-eq-READS.false w.refill.ensures.few) refl)
      | else-self-len w ↦ rw (w.self-inside-is, ← c.self.view_is) (goes_on_byte _ _ refl refl refl refl (room_byte _ _ _) refl)
    ]

pub returns-then-self-eq-READS-clause-goes_on : goal.returns-then-self-eq-READS-clause-goes_on
returns-then-self-eq-READS-clause-goes_on g c = goes_on_same c.args.self.now

pub returns-clause-room : goal.returns-clause-room
returns-clause-room g c = λ some.
    elim c.if-self-len.branch [
      | then-self-len+else-self+else-self-eq-READS+in_ok-refill+else-not-branch w ↦ rw (w.self-inside-is, ← c.self.view_is) (room_less c.self.inside.reads _ _ _ c.self.invariant.1 w.if-self-eq-READS.false w.refill.ensures.few (omega arith))
      | else-self-len w ↦
          let below : c.self.inside.at < vec_len c.self.inside.pending = omega (arith, c.len.ensures, c.self.invariant.0, w.if-self-len.false) in
          rw (w.self-inside-is, ← c.self.view_is) (room_byte_less _ _ _ below)
    ]

pub returns-in_err-refill-clause-byte : goal.returns-in_err-refill-clause-byte
returns-in_err-refill-clause-byte g c = IfOk-from_err c.from_residual.result _ c.from_residual.ensures.0

pub returns-in_err-refill-clause-waits : goal.returns-in_err-refill-clause-waits
returns-in_err-refill-clause-waits g c = IfOk-from_err c.from_residual.result _ c.from_residual.ensures.0

pub returns-in_err-refill-clause-room : goal.returns-in_err-refill-clause-room
returns-in_err-refill-clause-room g c = IfOk-from_err c.from_residual.result _ c.from_residual.ensures.0
