use Rattle.std.proofs.Common.{get_or, ap, ◌∙◌}
use Rattle.office_mail_setup.specs.declared.setup.Sender.{Sender}
use Rattle.office_mail.specs.Covers.{number_for}
use Rattle.office_mail_setup.proofs.Each.{kept_more}
use Rattle.office_mail.proofs.Views.{stated_covers}
use Rattle.office_mail.proofs.covers.numbers_by_sender.Goals as goal

pub senders-preserved : goal.senders-preserved
senders-preserved c =
    let covers = stated_covers c.args.covers.now in
    let at = c.senders.sender-index in
    let item = c.sender-item.result in
    rw c.in_ok-push.ensures.items (kept_more (λ (s : Sender). number_for s.name covers) c.senders.numbers.items c.args.setup.now.senders at item _ (rw c.senders-sender-items.ensures.same at c.senders-test.true) c.senders.invariant
    (c.number_for.ensures ∙ ap (λ n. number_for n covers) (c.as_str.ensures ∙ ap (λ (s : Sender). s.name) (c.sender-item.is ∙ ap (λ xs. get_or xs at item) c.senders-sender-items.ensures.same))))
