use Rattle.std.proofs.Common.{◌≡◌, ◌+◌, drop}
use Rattle.office_mail_setup.specs.Setup.{place_of_role}
use Rattle.office_mail_setup.specs.declared.setup.Role.TheVariants.{Runs}
use Rattle.office_mail_setup.proofs.setup.Setup.runs.Given as goal

abbrev pub invariant-loop-sender : goal.invariant-loop-sender
invariant-loop-sender l = (l.place ≡ l.sender-index) × (l.place + place_of_role Runs (drop l.place l.senders) ≡ place_of_role Runs l.senders)
