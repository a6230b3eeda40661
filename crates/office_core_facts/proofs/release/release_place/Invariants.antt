use Rattle.std.proofs.Common.{◌≡◌, ◌+◌, drop}
use Rattle.office_mail.specs.Setup.{place_of_role}
use Rattle.office_mail_setup.specs.declared.setup.Role.TheVariants.{Release}
use Rattle.office_core_facts.proofs.release.release_place.Given as goal

abbrev pub invariant-loop-sender : goal.invariant-loop-sender
invariant-loop-sender l = (l.place ≡ l.sender-index) × (l.place + place_of_role Release (drop l.place l.senders) ≡ place_of_role Release l.senders)
