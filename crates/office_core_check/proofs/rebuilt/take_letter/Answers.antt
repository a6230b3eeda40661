use Rattle.std.proofs.Common.{◌≡◌, ◌≢◌, List, ℕ, Some, [], ◌∷◌, ap, subst, ◌∙◌}
use Rattle.std.proofs.lemmas.Result.{IfOk-at_ok, IfOk-weaker}
use Rattle.std.specs.FinMap.{insert}
use Rattle.office_mail.specs.Kept.{IsPlace, Kept, kept_from, placed}
use Rattle.office_store_keeper.specs.MemoryState.{content_of}
use Rattle.office_core_check.proofs.TakingFacts.{other_placed, own_few, own_put}
use Rattle.office_core_check.proofs.rebuilt.take_letter.Goals as goal

pub returns-clause-own : goal.returns-clause-own
returns-clause-own c = λ office free.
    let sender = c.args.sender in
    let letter = c.args.letter.now in
    let setup = c.args.office.now.plain.setup in
    let kept : Kept = (content_of c.args.office.now.plain).kept in
    let new : Kept = (content_of c.deliver-answer.new.self.plain).kept in
    IfOk-weaker c.is_held.result _ _
    (λ own held yes.
    let is = held yes in
    own_put setup kept new c.as_slice.result.now sender letter.number c.deliver-answer.result is (c.deliver-answer.ensures.answer (tt, (tt, office))) free
    (IfOk-at_ok (λ _. new ≡ kept_from setup kept (c.as_slice.result.now ∷ [])) is (c.deliver-answer.ensures.kept (tt, (tt, office))))
    ∙ ap (insert kept (sender, letter.number)) c.as_slice.ensures)
    c.is_held.ensures.own

pub returns-clause-other : goal.returns-clause-other
returns-clause-other c = λ office free.
    let sender = c.args.sender in
    let letter = c.args.letter.now in
    let setup = c.args.office.now.plain.setup in
    let kept : Kept = (content_of c.args.office.now.plain).kept in
    let new : Kept = (content_of c.deliver-answer.new.self.plain).kept in
    let answers = c.deliver-answer.ensures.answer (tt, (tt, office)) in
    IfOk-weaker c.is_held.result _ _
    (λ own other isnt.
    subst (λ (text : List ℕ). placed setup text ≢ Some ((sender, letter.number), text)) c.as_slice.ensures
    (other_placed setup kept c.as_slice.result.now sender letter.number c.deliver-answer.result (other isnt)
    (own_few setup kept new c.as_slice.result.now sender letter.number c.deliver-answer.result answers free (c.deliver-answer.ensures.kept (tt, (tt, office))) (λ p some. subst (λ s. IsPlace s p) c.deliver-answer.ensures.carries.setup ((c.deliver-answer.ensures.carries.sound tt (tt, office)).1.places p some)))
    answers free))
    c.is_held.ensures.other

pub returns-clause-anew : goal.returns-clause-anew
returns-clause-anew c = λ office. (c.deliver-answer.ensures.carries.sound tt (tt, office)).1
