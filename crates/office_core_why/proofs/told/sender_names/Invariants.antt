use Rattle.std.proofs.Common.{◌≡◌, map, take}
use Rattle.office_mail_setup.specs.declared.setup.Sender.{Sender}
use Rattle.office_core_why.proofs.told.sender_names.Given as goal

-- those so far
abbrev pub invariant-loop-sender : goal.invariant-loop-sender
invariant-loop-sender l = l.names.items ≡ map (λ (sender : Sender). sender.name) (take l.sender-index l.senders)
