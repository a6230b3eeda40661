use Rattle.std.proofs.Common.{ℕ, Bool, ◌||◌, ◌-◌, ◌≤◌, not, Some, None, inl, inr, sym, ap, subst, ◌∙◌, arith}
use Rattle.std.proofs.lemmas.Result.{err_from_is_err_and}
use Rattle.std.proofs.KnownBytes.{Appends-trans}
use Rattle.office_core_store.specs.declared.faults.StoreFault.TheVariants.{NoMemory}
use Rattle.office_core.specs.Preserves.{StoreRefused}
use Rattle.office_core_replay.specs.Losses.{is_short}
use Rattle.office_core_replay.specs.Output.{Marks}
use Rattle.office_core_replay.specs.steps.Ending.{WritesEnd, WritesEndFront}
use Rattle.office_core_replay.specs.Replay.{ReplaysAll, ReplaysFront}
use Rattle.office_core_facts.specs.OfficeState.{OfficeState}
use Rattle.office_core_facts.specs.State.{state_of}
use Rattle.office_mail.proofs.WrittenFacts.{front_after, front_before}
use Rattle.office_core.proofs.CarryFacts.{carries_twice, holds_first, holds_next, refused_first, refused_next, state_asked}
use Rattle.office_core_replay.proofs.EndFacts.{fill, fill_all, counted-fill}
use Rattle.office_core_replay.proofs.CourseFacts.{settled_call, replays_all, replays_front, replays_last}
use Rattle.office_core_replay.proofs.replays.replay_from.Goals as goal

pub returns-in_err-delivered-clause-err : goal.returns-in_err-delivered-clause-err
returns-in_err-delivered-clause-err g c =
    let p = err_from_is_err_and c.from_residual.result c.from_residual.ensures.1 in
    let keeper = g.K.Keeper in
    let s0 = c.args.office.now in
    let s1 = c.deliver_all.new.office in
    let written = g.W.Sink.written in
    λ h b.
    rw p.1 (elim (c.in_err-delivered.ensures.front h) [
      | inl f ↦ inl (record { delivers = f; ready = f.keeps.ready h.1.1.ready })
      | inr f ↦ inr (replays_last (StoreRefused keeper s0 s1) (state_of keeper s0) (state_of keeper s1) c.args.bag.now c.deliver_all.new.bag (written c.args.writer.now) (written c.deliver_all.new.writer) h.1.1.ready f)
    ])

pub returns-in_err-write_bag-clause-err : goal.returns-in_err-write_bag-clause-err
returns-in_err-write_bag-clause-err g c =
    let p = err_from_is_err_and c.from_residual-in_err-write_bag.result c.from_residual-in_err-write_bag.ensures.1 in
    let keeper = g.K.Keeper in
    let written = g.W.Sink.written in
    let s0 = c.args.office.now in
    let s1 = c.deliver_all.new.office in
    let s2 = c.settle.new.self in
    let one = c.in_ok-delivered.ensures.carries in
    let r = c.settle.result in
    let settle = c.settle.ensures in
    let two = settle.changes.carries in
    let end = c.in_ok-delivered.delivered.end in
    let lost = c.in_ok-delivered.delivered.lost in
    let w0 = written c.args.writer.now in
    let w1 = written c.deliver_all.new.writer in
    let w2 = written c.write_bag.new.writer in
    let rose = StoreRefused keeper s0 s2 in
    λ h b.
    let h1 = holds_first keeper s0 s1 s2 two h in
    let h2 = holds_next keeper s0 s1 s2 one two h in
    let d = c.in_ok-delivered.ensures.all h1 in
    let settled = settled_call keeper s1 s2 r (settle.ready h2) (settle.finished h2) (settle.kept h2) (settle.grows h2) (settle.only_ready h2) two.setup in
    let more : ℕ = (state_of keeper s2).finished - (state_of keeper s0).finished in
    let marks : Marks = record { status = Some NoMemory; count = None; reports = fill more; testing = None } in
    let grown : (state_of keeper s0).finished ≤ (state_of keeper s2).finished = omega (arith, d.keeps.grows, settled.grows) in
    rw p.1 (inr (replays_front (StoreRefused keeper s0 s1) rose rose (state_of keeper s0) (state_of keeper s1) (state_of keeper s2) c.args.bag.now c.deliver_all.new.bag w0 w1 w2 end lost c.is_ok-settled.result r 0 marks
    d (refused_first keeper s0 s1 s2 two) settled c.is_ok-settled.ensures.value
    (record { ready_is = λ e. absurd (cc (e)); runs = λ e. fill_all (state_of keeper s0).finished (state_of keeper s2).finished grown })
    (record { status = tt; count = tt; reports = counted-fill rose more; testing = tt }) (λ e. e)
    (front_before w0 w2 _ _ (front_after w0 w1 w2 _ _ d.written c.in_err-write_bag.ensures.err))))

pub returns-in_err-missing-clause-err : goal.returns-in_err-missing-clause-err
returns-in_err-missing-clause-err g c =
    let p = err_from_is_err_and c.from_residual-in_err-missing.result c.from_residual-in_err-missing.ensures.1 in
    let keeper = g.K.Keeper in
    let written = g.W.Sink.written in
    let s0 = c.args.office.now in
    let s1 = c.deliver_all.new.office in
    let s2 = c.settle.new.self in
    let one = c.in_ok-delivered.ensures.carries in
    let r = c.settle.result in
    let settle = c.settle.ensures in
    let two = settle.changes.carries in
    let end = c.in_ok-delivered.delivered.end in
    let lost = c.in_ok-delivered.delivered.lost in
    let w0 = written c.args.writer.now in
    let w1 = written c.deliver_all.new.writer in
    let w2 = written c.write_bag.new.writer in
    let s3 = c.write_end.new.office in
    let w3 = written c.write_end.new.writer in
    let both = carries_twice keeper s0 s1 s2 one two in
    let asked = c.in_err-missing.ensures.asks in
    let three = asked.carries in
    let rose = StoreRefused keeper s0 s3 in
    λ h b.
    let hh = holds_first keeper s0 s2 s3 three h in
    let h1 = holds_first keeper s0 s1 s2 two hh in
    let h2 = holds_next keeper s0 s1 s2 one two hh in
    let h3 = holds_next keeper s0 s2 s3 both three h in
    let d = c.in_ok-delivered.ensures.all h1 in
    let settled = settled_call keeper s1 s2 r (settle.ready h2) (settle.finished h2) (settle.kept h2) (settle.grows h2) (settle.only_ready h2) two.setup in
    let some : c.args.before ≤ (state_of keeper s2).finished = omega (arith, b, d.keeps.grows, settled.grows) in
    let first : StoreRefused keeper s0 s1 → rose = λ e. refused_first keeper s0 s2 s3 three (refused_first keeper s0 s1 s2 two e) in
    let last : StoreRefused keeper s2 s3 → rose = refused_next keeper s0 s2 s3 both in
    let e = subst (λ (k : ℕ). WritesEndFront (state_of keeper s2) k w2 w3 (StoreRefused keeper s2 s3)) b (c.in_err-missing.ensures.err h3 some) in
    rw p.1 (inr (subst (λ (s : OfficeState). ReplaysFront (state_of keeper s0) s c.args.bag.now c.deliver_all.new.bag w0 w3 rose) (sym (state_asked keeper s2 s3 asked h.0))
    (replays_front (StoreRefused keeper s0 s1) (StoreRefused keeper s2 s3) rose (state_of keeper s0) (state_of keeper s1) (state_of keeper s2) c.args.bag.now c.deliver_all.new.bag w0 w1 w3 end lost c.is_ok-settled.result r e.ready e.marks
    d first settled c.is_ok-settled.ensures.value e.each e.by_store last
    (front_after w0 w2 w3 _ _ (Appends-trans w0 w1 w2 _ _ d.written c.in_ok-write_bag.ensures.ok) e.written))))

pub returns-clause-ok : goal.returns-clause-ok
returns-clause-ok g c =
    let keeper = g.K.Keeper in
    let written = g.W.Sink.written in
    let s0 = c.args.office.now in
    let s1 = c.deliver_all.new.office in
    let s2 = c.settle.new.self in
    let one = c.in_ok-delivered.ensures.carries in
    let r = c.settle.result in
    let settle = c.settle.ensures in
    let two = settle.changes.carries in
    let end = c.in_ok-delivered.delivered.end in
    let lost = c.in_ok-delivered.delivered.lost in
    let w0 = written c.args.writer.now in
    let w1 = written c.deliver_all.new.writer in
    let w2 = written c.write_bag.new.writer in
    let s3 = c.write_end.new.office in
    let w3 = written c.write_end.new.writer in
    let both = carries_twice keeper s0 s1 s2 one two in
    let asked = c.in_ok-missing.ensures.asks in
    let three = asked.carries in
    let rose = StoreRefused keeper s0 s3 in
    λ h b.
    let hh = holds_first keeper s0 s2 s3 three h in
    let h1 = holds_first keeper s0 s1 s2 two hh in
    let h2 = holds_next keeper s0 s1 s2 one two hh in
    let h3 = holds_next keeper s0 s2 s3 both three h in
    let d = c.in_ok-delivered.ensures.all h1 in
    let settled = settled_call keeper s1 s2 r (settle.ready h2) (settle.finished h2) (settle.kept h2) (settle.grows h2) (settle.only_ready h2) two.setup in
    let some : c.args.before ≤ (state_of keeper s2).finished = omega (arith, b, d.keeps.grows, settled.grows) in
    let first : StoreRefused keeper s0 s1 → rose = λ e. refused_first keeper s0 s2 s3 three (refused_first keeper s0 s1 s2 two e) in
    let last : StoreRefused keeper s2 s3 → rose = refused_next keeper s0 s2 s3 both in
    let e = subst (λ (k : ℕ). WritesEnd (state_of keeper s2) k w2 w3 c.in_ok-missing.missing (StoreRefused keeper s2 s3)) b (c.in_ok-missing.ensures.ok h3 some) in
    subst (λ (s : OfficeState). ReplaysAll (state_of keeper s0) s c.args.bag.now c.deliver_all.new.bag w0 w3 (record { bag = end; lost = c.either-2.result }) rose) (sym (state_asked keeper s2 s3 asked h.0))
    (replays_all (StoreRefused keeper s0 s1) (StoreRefused keeper s2 s3) rose (state_of keeper s0) (state_of keeper s1) (state_of keeper s2) c.args.bag.now c.deliver_all.new.bag w0 w1 w3 (record { bag = end; lost = c.either-2.result }) lost c.is_ok-settled.result r e.ready e.marks
    d first settled c.is_ok-settled.ensures.value e.each e.by_store last
    (c.either-2.ensures ∙ ap (λ (x : Bool). x || c.in_ok-missing.missing) (c.either.ensures ∙ ap (λ (x : Bool). x || not c.is_ok-settled.result) (c.either-bag_lost.ensures ∙ ap (λ (x : Bool). lost || x) c.is_short.ensures))
    ∙ ap (λ (x : Bool). ((lost || is_short end) || not c.is_ok-settled.result) || x) e.losses)
    (Appends-trans w0 w2 w3 _ _ (Appends-trans w0 w1 w2 _ _ d.written c.in_ok-write_bag.ensures.ok) e.written))
