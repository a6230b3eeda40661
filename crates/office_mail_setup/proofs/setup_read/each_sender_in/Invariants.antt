use Rattle.std.proofs.Common.{◌≡◌, drop}
use Rattle.office_mail_setup.specs.WholeText.{each_of}
use Rattle.office_mail_setup.specs.Setup.{sender_in}
use Rattle.office_mail_setup.proofs.Each.{then_append}
use Rattle.office_mail_setup.proofs.Views.{sender_lines}
use Rattle.office_mail_setup.proofs.setup_read.each_sender_in.Given as goal

-- what was read so far and what the rest says are what all say
abbrev pub invariant-lines : goal.invariant-lines
invariant-lines l = then_append l.senders.items (each_of sender_in (sender_lines (drop l.line-index l.lines))) ≡ each_of sender_in (sender_lines l.lines)
