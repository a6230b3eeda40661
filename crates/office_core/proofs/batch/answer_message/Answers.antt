use Rattle.std.proofs.Common.{◌≡◌, Result, None, sym, subst, refl, ◌∙◌}
use Rattle.office_core_replies.specs.declared.faults.DeliverFault.{DeliverFault}
use Rattle.office_core_replies.specs.declared.faults.Held.{Held}
use Rattle.office_core.specs.steps.GatherSteps.{TakesText, own_text}
use Rattle.office_core.proofs.GatherFacts.{takes_answer, takes_kept, takes_free, none_own}
use Rattle.office_core.proofs.batch.answer_message.Goals as goal

pub returns-in-Some-clause-takes : goal.returns-in-Some-clause-takes
returns-in-Some-clause-takes g c = λ setup reads trusted free.
    takes_answer setup (g.K.Keeper.content c.args.keeper.now).kept c.args.letters.now.items c.args.text.now c.args.message.now c.in-Some.reply _ reads refl
    (sym c.in-Some.is ∙ rw (c.deref.ensures.value, c.as_slice.ensures) at c.own_answer.ensures)

pub returns-in-Some-2-clause-takes : goal.returns-in-Some-2-clause-takes
returns-in-Some-2-clause-takes g c = λ setup reads trusted free.
    let message = c.args.message.now in
    let own : own_text c.args.letters.now.items message.sender message.number ≡ None = none_own _ _ (sym (rw c.deref.ensures.value at c.own_answer.ensures) ∙ c.in_default.is) in
    subst (λ (r : Result Held DeliverFault). TakesText setup (g.K.Keeper.content c.args.keeper.now).kept c.args.letters.now.items c.args.letters.now.items c.args.text.now r) (sym (rw c.as_slice-in-Some-2.ensures at c.compare.ensures))
    (takes_kept setup (g.K.Keeper.content c.args.keeper.now).kept c.args.letters.now.items c.args.text.now c.in-Some-2.kept message reads own
    (sym c.in-Some-2.is ∙ c.in_ok-kept.ensures.found trusted free))

pub returns-in_ok-add_letter-in-None-clause-takes : goal.returns-in_ok-add_letter-in-None-clause-takes
returns-in_ok-add_letter-in-None-clause-takes g c = λ setup reads trusted free.
    let message = c.args.message.now in
    let own : own_text c.args.letters.now.items message.sender message.number ≡ None = none_own _ _ (sym (rw c.deref.ensures.value at c.own_answer.ensures) ∙ c.in_default.is) in
    rw c.in_ok-add_letter-in-None.ensures.ok
    (takes_free setup (g.K.Keeper.content c.args.keeper.now).kept c.args.letters.now.items c.args.text.now message reads own
    (sym c.in-None.is ∙ c.in_ok-kept.ensures.found trusted free))
