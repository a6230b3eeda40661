use Rattle.std.proofs.Common.{◌≡◌, ◌+◌, drop}
use Rattle.office_mail_setup.specs.Setup.{count_of}
use Rattle.office_mail_setup.proofs.setup_read.count_of.Given as goal

-- the count so far, and that of the rest
abbrev pub invariant-senders : goal.invariant-senders
invariant-senders l = l.count + count_of l.role (drop l.sender-index l.senders) ≡ count_of l.role l.senders
