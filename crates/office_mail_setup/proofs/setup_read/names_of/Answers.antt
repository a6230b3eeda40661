use Rattle.std.proofs.Common.{ℕ, List, refl}
use Rattle.std.specs.Borrow.{Bor}
use Rattle.office_mail_setup.specs.declared.setup_read.SenderLine.{SenderLine}
use Rattle.office_mail_setup.proofs.Each.{seen_more}
use Rattle.office_mail_setup.proofs.Views.{no_line}
use Rattle.office_mail_setup.proofs.setup_read.names_of.Goals as goal

pub senders-preserved : goal.senders-preserved
senders-preserved c =
    rw c.in_ok-push.ensures.items (seen_more (λ (n : Bor (List ℕ)). n.now) (λ (s : List ℕ × List ℕ). s.0) (λ (s : SenderLine). (s.name.now, s.role.now)) c.senders.names.items c.args.senders.now c.senders.sender-index no_line _ c.senders-test.true c.senders.invariant refl)
