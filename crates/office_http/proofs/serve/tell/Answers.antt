use Rattle.std.proofs.Common.{sym, ◌∙◌}
use Rattle.office_core.specs.Preserves.{StoreRefused}
use Rattle.office_core_facts.specs.State.{state_of}
use Rattle.office_http.proofs.ServeFacts.{place_short, told_short, told_whole}
use Rattle.office_http.proofs.serve.tell.Goals as goal

pub returns-then-is_whole-clause-place : goal.returns-then-is_whole-clause-place
returns-then-is_whole-clause-place g c = c.tell_whole-answer.ensures.place

pub returns-then-is_whole-clause-tells : goal.returns-then-is_whole-clause-tells
returns-then-is_whole-clause-tells g c =
    let keeper = g.K.Keeper in
    let s0 = c.args.office.now in
    let s1 = c.tell_whole-answer.new.office in
    λ h. told_whole (StoreRefused keeper s0 s1) (state_of keeper s0) c.args.page c.tell_whole-answer.result (sym c.is_told_whole-is_whole.ensures ∙ c.if-is_whole.true) (c.tell_whole-answer.ensures.tells h)

pub returns-clause-place : goal.returns-clause-place
returns-clause-place g c =
    rw c.answer_or.ensures (place_short (g.K.Keeper.setup c.args.office.now) c.tell_whole-answer.result c.short_answer.result c.tell_whole-answer.ensures.place c.short_answer.ensures.answer)

pub returns-clause-tells : goal.returns-clause-tells
returns-clause-tells g c =
    let keeper = g.K.Keeper in
    let s0 = c.args.office.now in
    let s1 = c.tell_whole-answer.new.office in
    let e = c.short_answer.ensures in
    λ h. rw c.answer_or.ensures
    (told_short (StoreRefused keeper s0 s1) (state_of keeper s0) c.args.page c.tell_whole-answer.result c.short_answer.result (sym c.is_told_whole-is_whole.ensures ∙ c.if-is_whole.false) (c.tell_whole-answer.ensures.tells h) e.answer e.no_store)
