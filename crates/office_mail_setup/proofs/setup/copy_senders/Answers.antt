use Rattle.std.proofs.Common.{◌∙◌}
use Rattle.office_mail_setup.proofs.Each.{copied_more}
use Rattle.office_mail_setup.proofs.setup.copy_senders.Goals as goal

pub each-preserved : goal.each-preserved
each-preserved c =
    rw c.in_ok-push.ensures.items (copied_more c.each.copies.items c.args.senders.now c.each.sender-index c.sender-item.result _ c.each-test.true c.each.invariant (c.in_ok-copy.ensures ∙ c.sender-item.is))
