use Rattle.std.proofs.Common.{◌≡◌, take}
use Rattle.office_mail_setup.proofs.setup.copy_senders.Given as goal

-- the copies so far
abbrev pub invariant-each : goal.invariant-each
invariant-each l = l.copies.items ≡ take l.sender-index l.senders
