use Rattle.std.proofs.Common.{◌≡◌, drop}
use Rattle.std.specs.List.{list_all}
use Rattle.office_mail_setup.specs.Setup.{is_sender_name}
use Rattle.office_mail_setup.proofs.Each.{texts}
use Rattle.office_mail_setup.proofs.setup_read.are_sender_names.Given as goal

-- those so far are good
abbrev pub invariant-names : goal.invariant-names
invariant-names l = list_all is_sender_name (texts (drop l.name-index l.names)) ≡ list_all is_sender_name (texts l.names)
