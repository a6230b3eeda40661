use Rattle.std.proofs.Common.{sym, subst}
use Rattle.std.proofs.lemmas.Result.{err_from_is_err_and}
use Rattle.std.specs.Io.KnownBytes.{Appends}
use Rattle.office_mail.specs.Lists.{Lists}
use Rattle.office_core_replies.specs.declared.replies.Mark.{Mark}
use Rattle.office_core.specs.Preserves.{StoreRefused}
use Rattle.office_core_replay.specs.steps.DeliverySteps.{DeliversOne}
use Rattle.office_core_replies.specs.Replies.{reply_line}
use Rattle.office_core_facts.specs.State.{state_of}
use Rattle.office_mail.specs.Written.{AppendsFront}
use Rattle.office_core.proofs.CarryFacts.{holds_first, holds_next, refused_first, refused_next}
use Rattle.office_core_replay.proofs.ReplayFacts.{leaves_call, delivers_one, delivers_one_front}
use Rattle.office_core_replay.proofs.replays.deliver_one.Goals as goal

pub returns-in_err-write_reply-clause-front : goal.returns-in_err-write_reply-clause-front
returns-in_err-write_reply-clause-front g c =
    let keeper = g.K.Keeper in
    let s0 = c.args.office.now in
    let s1 = c.deliver-reply.new.self in
    let r = c.deliver-reply.result in
    let e = c.deliver-reply.ensures in
    let w0 = g.W.Sink.written c.args.writer.now in
    let w1 = g.W.Sink.written c.write_reply.new.writer in
    let p = err_from_is_err_and c.from_residual.result c.from_residual.ensures.1 in
    λ h. rw p.1 (delivers_one_front (StoreRefused keeper s0 s1) (state_of keeper s0) (state_of keeper s1) c.args.text.now r w0 w1
    (leaves_call keeper s0 s1 c.args.text.now r (e.answer h) (e.kept h) (e.runs.finished h) (e.runs.err h) e.carries.setup e.counted)
    (e.carries.sound h.0 h.1).1.ready (subst (λ (l : Lists). AppendsFront w0 w1 (reply_line l r)) c.setup.ensures.setup c.in_err-write_reply.ensures.err))

pub returns-clause-ok : goal.returns-clause-ok
returns-clause-ok g c =
    let keeper = g.K.Keeper in
    let s0 = c.args.office.now in
    let s1 = c.deliver-reply.new.self in
    let s2 = c.settle_behind.new.office in
    let text = c.args.text.now in
    let r = c.deliver-reply.result in
    let e = c.deliver-reply.ensures in
    let w0 = g.W.Sink.written c.args.writer.now in
    let w1 = g.W.Sink.written c.write_reply.new.writer in
    let one = e.carries in
    let two = c.settle_behind.ensures.carries in
    λ h.
    let h1 = holds_first keeper s0 s1 s2 two h in
    let h2 = holds_next keeper s0 s1 s2 one two h in
    subst (λ (m : Mark). DeliversOne (state_of keeper s0) (state_of keeper s2) text m w0 w1 (StoreRefused keeper s0 s2)) (sym c.mark_of.ensures)
    (delivers_one (StoreRefused keeper s0 s1) (StoreRefused keeper s1 s2) (StoreRefused keeper s0 s2) (state_of keeper s0) (state_of keeper s1) (state_of keeper s2) text r w0 w1
    (leaves_call keeper s0 s1 text r (e.answer h1) (e.kept h1) (e.runs.finished h1) (e.runs.err h1) e.carries.setup e.counted) (refused_first keeper s0 s1 s2 two)
    (c.settle_behind.ensures.settles h2) (refused_next keeper s0 s1 s2 one)
    (subst (λ (l : Lists). Appends w0 w1 (reply_line l r)) c.setup.ensures.setup c.in_ok-write_reply.ensures.ok))
