use Rattle.std.proofs.Common.{◌≡◌, ◌+◌, drop}
use Rattle.office_mail.specs.Setup.{place_of_role}
use Rattle.office_mail_setup.specs.declared.setup.Role.TheVariants.{Release}
use Rattle.office_store_testing_tables.proofs.fact_rows.release_place.Given as goal

-- the release team isn't among the senders so far
abbrev pub invariant-senders : goal.invariant-senders
invariant-senders l = (l.place ≡ l.sender-index) × (l.place + place_of_role Release (drop l.place l.senders) ≡ place_of_role Release l.senders)
