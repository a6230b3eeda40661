use Rattle.std.proofs.Common.{◌≡◌, List, ℕ, None, Some, true, ap, subst, ◌∙◌, arith}
use Rattle.std.specs.Io.KnownBytes.{Appends}
use Rattle.std.proofs.lemmas.Result.{err_from_is_err_and}
use Rattle.office_mail.specs.Lists.{Lists}
use Rattle.office_store_keeper.specs.Content.{Content}
use Rattle.office_store_keeper.specs.declared.values.Letter.{Letter}
use Rattle.office_mail.specs.Written.{AppendsFront}
use Rattle.office_core_queries.specs.steps.Numbers.{IsLetterAbove, IsNextLetter}
use Rattle.office_core_queries.specs.steps.Walk.{told_as}
use Rattle.office_core_queries.proofs.AskFacts.{both_asked, both_none, both_then, both_written, holds_before, holds_behind}
use Rattle.office_core_queries.proofs.TextLists.{told_all, told_cut, told_front, told_more, told_none}
use Rattle.office_core_queries.proofs.walk.write_sender.Goals as goal

pub loop-letter-init : goal.loop-letter-init
loop-letter-init g c = record {
  asked = both_none g.K.Keeper c.args.office.now (g.W.Sink.failures c.args.writer.now);
  few = omega arith;
  told = λ h. told_none (told_as c.args.form (g.K.Keeper.setup c.args.office.now)) (g.K.Keeper.content c.args.office.now).kept c.args.sender (g.W.Sink.written c.args.writer.now);
}

pub returns-in_err-letter-clause-front : goal.returns-in_err-letter-clause-front
returns-in_err-letter-clause-front g c =
    let p = err_from_is_err_and c.from_residual.result c.from_residual.ensures.1 in
    let keeper = g.K.Keeper in
    let written = g.W.Sink.written in
    let s0 = c.args.office.now in
    let l = c.loop-letter.invariant in
    λ h.
    let h1 = holds_before keeper s0 c.loop-letter.office c.letter_above.new.office c.in_err-letter.ensures.asks.asks h in
    rw p.1 (told_front (told_as c.args.form (keeper.setup s0)) (keeper.content s0).kept c.args.sender c.loop-letter.last (written c.args.writer.now) (written c.loop-letter.writer) l.few (l.told h1))

pub returns-in_err-write_text-clause-front : goal.returns-in_err-write_text-clause-front
returns-in_err-write_text-clause-front g c =
    let p = err_from_is_err_and c.from_residual-in_err-write_text.result c.from_residual-in_err-write_text.ensures.1 in
    let keeper = g.K.Keeper in
    let written = g.W.Sink.written in
    let s0 = c.args.office.now in
    let s1 = c.loop-letter.office in
    let s2 = c.letter_above.new.office in
    let kept = (keeper.content s0).kept in
    let tells = told_as c.args.form (keeper.setup s0) in
    let l = c.loop-letter.invariant in
    let last = c.loop-letter.last in
    let step = c.in_ok-letter.ensures in
    let letter : Letter = c.in-Some.letter in
    let above : IsLetterAbove last (Some letter) = subst (IsLetterAbove last) c.in-Some.is step.above in
    let setup : c.setup.result.now ≡ keeper.setup s0 = c.setup.ensures.setup ∙ step.asks.asks.carries.setup ∙ l.asked.asks.carries.setup in
    let text : told_as c.args.form c.setup.result.now c.as_slice.result.now ≡ tells letter.text =
    ap (λ (s : Lists). told_as c.args.form s c.as_slice.result.now) setup ∙ ap tells c.as_slice.ensures in
    λ h.
    let h1 = holds_before keeper s0 s1 s2 step.asks.asks h in
    let h2 = holds_behind keeper s0 s1 s2 l.asked.asks step.asks.asks h in
    let next : IsNextLetter kept c.args.sender last (Some letter) =
    subst (IsNextLetter kept c.args.sender last) c.in-Some.is (subst (λ (m : Content). IsNextLetter m.kept c.args.sender last c.in_ok-letter.field-0) (l.asked.asks.same h1.0) (step.next h2)) in
    rw p.1 (told_cut tells kept c.args.sender last letter (written c.args.writer.now) (written c.loop-letter.writer) (written c.write_text.new.writer) above.1 next (l.told h1)
    (subst (λ (b : List ℕ). AppendsFront (written c.loop-letter.writer) (written c.write_text.new.writer) b) text c.in_err-write_text.ensures.front))

pub loop-letter-preserved : goal.loop-letter-preserved
loop-letter-preserved g c =
    let keeper = g.K.Keeper in
    let written = g.W.Sink.written in
    let failures = g.W.Sink.failures in
    let s0 = c.args.office.now in
    let s1 = c.loop-letter.office in
    let s2 = c.letter_above.new.office in
    let kept = (keeper.content s0).kept in
    let tells = told_as c.args.form (keeper.setup s0) in
    let l = c.loop-letter.invariant in
    let last = c.loop-letter.last in
    let step = c.in_ok-letter.ensures in
    let letter : Letter = c.in-Some.letter in
    let f0 = failures c.args.writer.now in
    let f1 = failures c.loop-letter.writer in
    let f2 = failures c.write_text.new.writer in
    let above : IsLetterAbove last (Some letter) = subst (IsLetterAbove last) c.in-Some.is step.above in
    let setup : c.setup.result.now ≡ keeper.setup s0 = c.setup.ensures.setup ∙ step.asks.asks.carries.setup ∙ l.asked.asks.carries.setup in
    let text : told_as c.args.form c.setup.result.now c.as_slice.result.now ≡ tells letter.text =
    ap (λ (s : Lists). told_as c.args.form s c.as_slice.result.now) setup ∙ ap tells c.as_slice.ensures in
    record {
      asked = both_then keeper s0 s2 s2 f0 f1 f2 _ (both_then keeper s0 s1 s2 f0 f1 f1 _ l.asked (both_asked keeper s1 s2 f1 _ step.asks)) (both_written keeper s2 f1 f2 true c.in_ok-write_text.ensures.counted);
      few = above.1;
      told = λ h.
          let h1 = holds_before keeper s0 s1 s2 step.asks.asks h in
          let h2 = holds_behind keeper s0 s1 s2 l.asked.asks step.asks.asks h in
          let next : IsNextLetter kept c.args.sender last (Some letter) =
          subst (IsNextLetter kept c.args.sender last) c.in-Some.is (subst (λ (m : Content). IsNextLetter m.kept c.args.sender last c.in_ok-letter.field-0) (l.asked.asks.same h1.0) (step.next h2)) in
          told_more tells kept c.args.sender last letter (written c.args.writer.now) (written c.loop-letter.writer) (written c.write_text.new.writer) next (l.told h1)
          (subst (λ (b : List ℕ). Appends (written c.loop-letter.writer) (written c.write_text.new.writer) b) text c.in_ok-write_text.ensures.ok);
    }

pub returns-clause-ok : goal.returns-clause-ok
returns-clause-ok g c = λ h.
    let keeper = g.K.Keeper in
    let written = g.W.Sink.written in
    let s0 = c.args.office.now in
    let s1 = c.loop-letter.office in
    let s2 = c.letter_above.new.office in
    let kept = (keeper.content s0).kept in
    let l = c.loop-letter.invariant in
    let last = c.loop-letter.last in
    let step = c.in_ok-letter.ensures in
    let h1 = holds_before keeper s0 s1 s2 step.asks.asks h in
    let h2 = holds_behind keeper s0 s1 s2 l.asked.asks step.asks.asks h in
    let none : IsNextLetter kept c.args.sender last None =
    subst (IsNextLetter kept c.args.sender last) c.in_default.is (subst (λ (m : Content). IsNextLetter m.kept c.args.sender last c.in_ok-letter.field-0) (l.asked.asks.same h1.0) (step.next h2)) in
    told_all (told_as c.args.form (keeper.setup s0)) kept c.args.sender last (written c.args.writer.now) (written c.loop-letter.writer) l.few none (l.told h1)
