use Rattle.std.proofs.Common.{◌+◌, ◌∷◌, drop, sym, ap, ◌∙◌}
use Rattle.std.proofs.lemmas.List.{drop_more, drop_all, map_push}
use Rattle.std.proofs.lemmas.Result.{err_from_is_err_and}
use Rattle.office_mail_setup.specs.WholeText.{each_of}
use Rattle.office_mail_setup.specs.Setup.{sender_texts}
use Rattle.office_mail_setup.proofs.Each.{then_append, begins_with_none, each_step, each_fails, each_ends}
use Rattle.office_mail_setup.proofs.SetupAnswerFacts.{setup_fails_as}
use Rattle.office_mail_setup.proofs.Views.{sender_lines}
use Rattle.office_mail_setup.proofs.setup_read.each_sender.Goals as goal

pub paragraphs-init : goal.paragraphs-init
paragraphs-init c = rw c.new-senders.ensures.items (begins_with_none (each_of sender_texts c.args.paragraphs.now))

pub paragraphs-preserved : goal.paragraphs-preserved
paragraphs-preserved c =
    let cut = drop_more c.args.paragraphs.now c.paragraphs.paragraph-index c.paragraph-item.result c.paragraphs-test.true ∙ ap (λ p. p ∷ drop (c.paragraphs.paragraph-index + 1) c.args.paragraphs.now) (sym c.paragraph-item.is) in
    rw c.in_ok-push.ensures.items (ap (λ done. then_append done (each_of sender_texts (drop (c.paragraphs.paragraph-index + 1) c.args.paragraphs.now))) (map_push _ c.paragraphs.senders.items _) ∙ sym (each_step sender_texts (sender_lines c.paragraphs.senders.items) _ _ _ _ cut c.in_ok-sender_texts.ensures) ∙ c.paragraphs.invariant)

pub returns-in_err-sender_texts : goal.returns-in_err-sender_texts
returns-in_err-sender_texts c =
    let cut = drop_more c.args.paragraphs.now c.paragraphs.paragraph-index c.paragraph-item.result c.paragraphs-test.true ∙ ap (λ p. p ∷ drop (c.paragraphs.paragraph-index + 1) c.args.paragraphs.now) (sym c.paragraph-item.is) in
    let p = err_from_is_err_and c.from_residual.result c.from_residual.ensures.1 in
    rw (p.1, p.2) (setup_fails_as c.in_err-sender_texts.field-0.0 (sender_texts c.paragraph-item.result) (each_of sender_texts c.args.paragraphs.now)
    (λ f bad. sym c.paragraphs.invariant ∙ each_fails sender_texts (sender_lines c.paragraphs.senders.items) _ _ _ f cut bad)
    c.in_err-sender_texts.ensures)

pub returns : goal.returns
returns c = sym c.paragraphs.invariant ∙ each_ends sender_texts (sender_lines c.paragraphs.senders.items) _ ((drop_all c.paragraphs.paragraph-index c.args.paragraphs.now c.paragraphs-test.false))
