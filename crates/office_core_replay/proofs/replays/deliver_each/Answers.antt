use Rattle.std.proofs.Common.{◌≡◌, Bool, true, false, ◌||◌, Some, None, Ok, sym, ap, subst, ◌∙◌, refl, arith}
use Rattle.std.proofs.lemmas.Result.{err_from_is_err_and}
use Rattle.office_mail.specs.BagSteps.{TakesMessage}
use Rattle.office_mail.proofs.BagFacts.{counts_same, counts_twice}
use Rattle.office_core.specs.Preserves.{StoreRefused}
use Rattle.office_core_facts.specs.State.{state_of}
use Rattle.office_core.proofs.CarryFacts.{carries_none, carries_twice, holds_first, holds_next, refused_first, refused_next}
use Rattle.office_core_replay.proofs.DeliverFacts.{not_true, unfailed, delivers_none, delivers_more, delivers_front, delivers_all}
use Rattle.office_core_replay.proofs.replays.deliver_each.Goals as goal
use Rattle.office_core_replay.proofs.replays.deliver_each.Goals.{then-lost, else-lost}
use Rattle.office_core_replies.specs.Replies.{is_lost}

lost_before : (a b : Bool) → a ≡ true → a ≡ (a || b)
lost_before true b e = refl
lost_before false b e = absurd (cc (e))

lost_now : (a b : Bool) → a ≡ false → b ≡ (a || b)
lost_now true b e = absurd (cc (e))
lost_now false b e = refl

pub loop-text-init : goal.loop-text-init
loop-text-init g c =
    let s = c.args.office.now in
    record {
      carries = carries_none g.K.Keeper s;
      so_far = λ h. delivers_none (state_of g.K.Keeper s) c.args.bag.now (g.W.Sink.written c.args.writer.now) (StoreRefused g.K.Keeper s s);
      open_yet = c.requires;
      reads = refl;
      calls = omega arith;
      counts = counts_same c.args.bag.now;
      failures = refl;
    }

pub loop-text-preserved : goal.loop-text-preserved
loop-text-preserved g c =
    let keeper = g.K.Keeper in
    let written = g.W.Sink.written in
    let s0 = c.args.office.now in
    let s1 = c.loop-text.office in
    let s2 = c.deliver_one.new.office in
    let l = c.loop-text.invariant in
    let step = c.in_ok-mark-in-Ok-Some.ensures in
    let took = rw c.in-Ok-Some.field-0-is at c.in-Ok-Some.ensures.message in
    let text = c.deref.result.now in
    let lost : c.if-lost.lost ≡ (c.loop-text.lost || is_lost c.in_ok-mark-in-Ok-Some.mark) = elim c.if-lost.branch [
      | then-lost w ↦ w.lost-is ∙ lost_before c.loop-text.lost (is_lost c.in_ok-mark-in-Ok-Some.mark) w.if-lost.true
      | else-lost w ↦ w.lost-is ∙ w.is_lost-lost.ensures ∙ lost_now c.loop-text.lost (is_lost c.in_ok-mark-in-Ok-Some.mark) w.if-lost.false
    ] in
    record {
      carries = carries_twice keeper s0 s1 s2 l.carries step.carries;
      so_far = λ h. delivers_more (StoreRefused keeper s0 s1) (StoreRefused keeper s1 s2) (StoreRefused keeper s0 s2) c.loop-text.lost c.if-lost.lost (state_of keeper s0) (state_of keeper s1) (state_of keeper s2) c.args.bag.now c.loop-text.bag c.next.new.self
          (written c.args.writer.now) (written c.loop-text.writer) (written c.deliver_one.new.writer) text c.in_ok-mark-in-Ok-Some.mark
          (l.so_far (holds_first keeper s0 s1 s2 step.carries h)) (refused_first keeper s0 s1 s2 step.carries) (subst (TakesMessage c.loop-text.bag c.next.new.self) (sym c.deref.ensures.value) took)
          (step.ok (holds_next keeper s0 s1 s2 l.carries step.carries h)) (refused_next keeper s0 s1 s2 l.carries) lost;
      open_yet = not_true c.next.new.self.ended (λ t. cc (c.in-Ok-Some.ensures.ends.0 t, c.in-Ok-Some.field-0-is));
      reads = unfailed c.in-Ok-Some.field-0 c.loop-text.bag.failures c.next.new.self.failures c.in-Ok-Some.ensures.clean ∙ l.reads;
      calls = omega (arith, l.calls, c.next.ensures.calls);
      counts = counts_twice c.args.bag.now c.loop-text.bag c.next.new.self l.counts c.next.ensures.counts;
      failures = step.failures.clean ∙ l.failures;
    }

pub returns-in_err-mark-in-Ok-Some-clause-front : goal.returns-in_err-mark-in-Ok-Some-clause-front
returns-in_err-mark-in-Ok-Some-clause-front g c =
    let p = err_from_is_err_and c.from_residual.result c.from_residual.ensures.1 in
    let keeper = g.K.Keeper in
    let written = g.W.Sink.written in
    let s0 = c.args.office.now in
    let s1 = c.loop-text.office in
    let s2 = c.deliver_one.new.office in
    let l = c.loop-text.invariant in
    let step = c.in_err-mark-in-Ok-Some.ensures in
    let took = rw c.in-Ok-Some.field-0-is at c.in-Ok-Some.ensures.message in
    let text = c.deref.result.now in
    λ h. rw p.1 (delivers_front (StoreRefused keeper s0 s1) (StoreRefused keeper s1 s2) (StoreRefused keeper s0 s2) c.loop-text.lost (state_of keeper s0) (state_of keeper s1) (state_of keeper s2) c.args.bag.now c.loop-text.bag c.next.new.self
    (written c.args.writer.now) (written c.loop-text.writer) (written c.deliver_one.new.writer) text (l.so_far (holds_first keeper s0 s1 s2 step.carries h)) (refused_first keeper s0 s1 s2 step.carries)
    (subst (TakesMessage c.loop-text.bag c.next.new.self) (sym c.deref.ensures.value) took) (step.front (holds_next keeper s0 s1 s2 l.carries step.carries h)) (refused_next keeper s0 s1 s2 l.carries))

pub returns-in-Ok-None-clause-all : goal.returns-in-Ok-None-clause-all
returns-in-Ok-None-clause-all g c =
    let keeper = g.K.Keeper in
    let s0 = c.args.office.now in
    let s1 = c.loop-text.office in
    λ h. delivers_all (StoreRefused keeper s0 s1) (state_of keeper s0) (state_of keeper s1) c.args.bag.now c.loop-text.bag c.next.new.self (g.W.Sink.written c.args.writer.now) (g.W.Sink.written c.loop-text.writer) None c.loop-text.lost
    (c.loop-text.invariant.so_far h) (c.in-Ok-None.ensures.plain (ap Ok c.in-Ok-None.field-0-is) c.loop-text.invariant.open_yet)

pub returns-in-Err-clause-all : goal.returns-in-Err-clause-all
returns-in-Err-clause-all g c =
    let keeper = g.K.Keeper in
    let s0 = c.args.office.now in
    let s1 = c.loop-text.office in
    λ h. delivers_all (StoreRefused keeper s0 s1) (state_of keeper s0) (state_of keeper s1) c.args.bag.now c.loop-text.bag c.next.new.self (g.W.Sink.written c.args.writer.now) (g.W.Sink.written c.loop-text.writer) (Some c.in-Err.fault) c.loop-text.lost
    (c.loop-text.invariant.so_far h) c.in-Err.ensures.fault

pub returns-in_err-mark-in-Ok-Some-clause-counts : goal.returns-in_err-mark-in-Ok-Some-clause-counts
returns-in_err-mark-in-Ok-Some-clause-counts g c = counts_twice c.args.bag.now c.loop-text.bag c.next.new.self c.loop-text.invariant.counts c.next.ensures.counts

pub returns-in-Ok-None-clause-counts : goal.returns-in-Ok-None-clause-counts
returns-in-Ok-None-clause-counts g c = counts_twice c.args.bag.now c.loop-text.bag c.next.new.self c.loop-text.invariant.counts c.next.ensures.counts

pub returns-in-Err-clause-counts : goal.returns-in-Err-clause-counts
returns-in-Err-clause-counts g c = counts_twice c.args.bag.now c.loop-text.bag c.next.new.self c.loop-text.invariant.counts c.next.ensures.counts
