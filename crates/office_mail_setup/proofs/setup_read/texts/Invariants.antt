use Rattle.std.proofs.Common.{◌≡◌, take}
use Rattle.office_mail_setup.proofs.Each.{texts}
use Rattle.office_mail_setup.proofs.setup_read.texts.Given as goal

-- the texts so far
abbrev pub invariant-names : goal.invariant-names
invariant-names l = l.texts.items ≡ texts (take l.name-index l.names)
