use Rattle.std.proofs.Common.{flat_map, sym, subst}
use Rattle.std.specs.Io.KnownBytes.{Appends}
use Rattle.std.proofs.lemmas.Result.{err_from_is_err_and}
use Rattle.office_mail.specs.Lists.{Lists}
use Rattle.office_core_replies.specs.Replies.{reply_line}
use Rattle.office_mail.specs.Written.{AppendsFront}
use Rattle.office_core_replay.specs.steps.BlockSteps.{DeliversTextsFront}
use Rattle.office_core.specs.Preserves.{StoreRefused}
use Rattle.office_core_facts.specs.State.{state_of}
use Rattle.office_core_replay.proofs.BlockFacts.{block_delivers, block_front, texts_from, front_from}
use Rattle.office_core.proofs.CarryFacts.{holds_first, holds_next, refused_next, state_asked}
use Rattle.office_core_replay.proofs.blocks.deliver_block.Goals as goal

pub returns-in_err-answer_texts-in-Some-clause-front : goal.returns-in_err-answer_texts-in-Some-clause-front
returns-in_err-answer_texts-in-Some-clause-front g c =
    let p = err_from_is_err_and c.from_residual.result c.from_residual.ensures.1 in
    let keeper = g.K.Keeper in
    let written = g.W.Sink.written in
    let s0 = c.args.office.now in
    let s1 = c.keep_together.new.office in
    let s2 = c.answer_texts.new.office in
    let one = c.in-Some.ensures in
    let two = c.in_err-answer_texts-in-Some.ensures in
    let replies = c.in-Some.replies.items in
    let w0 = written c.args.writer.now in
    let w1 = written c.answer_texts.new.writer in
    λ h.
    let h1 = holds_first keeper s0 s1 s2 two.carries h in
    rw p.1 (subst (λ s. DeliversTextsFront (state_of keeper s0) (state_of keeper s) c.args.texts.now w0 w1 (StoreRefused keeper s0 s2)) (sym two.err)
    (block_front (StoreRefused keeper s0 s2) (state_of keeper s0) (state_of keeper s1) c.args.texts.now replies w0 w1 one.carries.setup (one.kept h1) (one.finished h1)
    (λ was. (one.carries.sound h1.0 h1.1).1.ready) (one.answers h1)
    (subst (λ (l : Lists). AppendsFront w0 w1 (flat_map (reply_line l) replies)) one.carries.setup (rw c.deref.ensures.value at two.writes.err))))

pub returns-in_ok-answer_texts-in-Some-clause-ok : goal.returns-in_ok-answer_texts-in-Some-clause-ok
returns-in_ok-answer_texts-in-Some-clause-ok g c =
    let keeper = g.K.Keeper in
    let written = g.W.Sink.written in
    let s0 = c.args.office.now in
    let s1 = c.keep_together.new.office in
    let s2 = c.answer_texts.new.office in
    let one = c.in-Some.ensures in
    let two = c.in_ok-answer_texts-in-Some.ensures in
    let replies = c.in-Some.replies.items in
    let w0 = written c.args.writer.now in
    let w1 = written c.answer_texts.new.writer in
    λ h.
    let h1 = holds_first keeper s0 s1 s2 two.carries h in
    let h2 = holds_next keeper s0 s1 s2 one.carries two.carries h in
    block_delivers (StoreRefused keeper s0 s2) (state_of keeper s0) (state_of keeper s1) (state_of keeper s2) c.args.texts.now replies w0 w1 one.carries.setup (one.kept h1) (one.finished h1)
    (λ was. (one.carries.sound h1.0 h1.1).1.ready) (two.settles h2) (one.answers h1)
    (subst (λ (l : Lists). Appends w0 w1 (flat_map (reply_line l) replies)) one.carries.setup (rw c.deref.ensures.value at two.writes.ok))

pub returns-in-None-clause-ok : goal.returns-in-None-clause-ok
returns-in-None-clause-ok g c =
    let keeper = g.K.Keeper in
    let written = g.W.Sink.written in
    let s0 = c.args.office.now in
    let s1 = c.keep_together.new.office in
    let s2 = c.deliver_texts.new.office in
    let one = c.keep_together.ensures in
    let two = c.deliver_texts.ensures in
    λ h.
    let h1 = holds_first keeper s0 s1 s2 two.carries h in
    texts_from (StoreRefused keeper s1 s2) (StoreRefused keeper s0 s2) (state_of keeper s0) (state_of keeper s1) (state_of keeper s2) c.args.texts.now (written c.args.writer.now) (written c.deliver_texts.new.writer) c.deliver_texts.result
    (state_asked keeper s0 s1 (record { carries = one.carries; same = λ trusted. one.none h1 c.in-None.is }) h1.0) (refused_next keeper s0 s1 s2 one.carries)
    (two.ok (holds_next keeper s0 s1 s2 one.carries two.carries h))

pub returns-in-None-clause-front : goal.returns-in-None-clause-front
returns-in-None-clause-front g c =
    let keeper = g.K.Keeper in
    let written = g.W.Sink.written in
    let s0 = c.args.office.now in
    let s1 = c.keep_together.new.office in
    let s2 = c.deliver_texts.new.office in
    let one = c.keep_together.ensures in
    let two = c.deliver_texts.ensures in
    λ h.
    let h1 = holds_first keeper s0 s1 s2 two.carries h in
    front_from (StoreRefused keeper s1 s2) (StoreRefused keeper s0 s2) (state_of keeper s0) (state_of keeper s1) (state_of keeper s2) c.args.texts.now (written c.args.writer.now) (written c.deliver_texts.new.writer) c.deliver_texts.result
    (state_asked keeper s0 s1 (record { carries = one.carries; same = λ trusted. one.none h1 c.in-None.is }) h1.0) (refused_next keeper s0 s1 s2 one.carries)
    (two.front (holds_next keeper s0 s1 s2 one.carries two.carries h))
