use Rattle.std.proofs.Common.{◌≡◌, drop}
use Rattle.office_mail_setup.specs.WholeText.{each_of}
use Rattle.office_mail_setup.specs.Setup.{sender_texts}
use Rattle.office_mail_setup.proofs.Each.{then_append}
use Rattle.office_mail_setup.proofs.Views.{sender_lines}
use Rattle.office_mail_setup.proofs.setup_read.each_sender.Given as goal

-- what was read so far and what the rest says are what all say
abbrev pub invariant-paragraphs : goal.invariant-paragraphs
invariant-paragraphs l = then_append (sender_lines l.senders.items) (each_of sender_texts (drop l.paragraph-index l.paragraphs)) ≡ each_of sender_texts l.paragraphs
