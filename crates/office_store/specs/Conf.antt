-- The exit statuses of a setup that is refused, or that can't be read.
use Rattle.std.specs.Prelude.{ℕ}
use Rattle.office_store.specs.declared.conf.ConfFault.{ConfFault}
use Rattle.office_store.specs.declared.conf.ConfFault.TheVariants.{Refused, Unreadable}
use Rattle.office_mail_setup.specs.declared.setup.SetupFault.{SetupFault}
use Rattle.office_mail_setup.specs.declared.setup.SetupFault.TheVariants.{BadParagraph, MissingField, BadArchitecture, BadSender, BadRoles, TooMany, NoMemory}

-- the exit status for a refused setup: 4 if memory ran out, else 3
abbrev pub status_of_fault : SetupFault → ℕ
status_of_fault NoMemory = 4
status_of_fault BadParagraph = 3
status_of_fault (MissingField field) = 3
status_of_fault BadArchitecture = 3
status_of_fault BadSender = 3
status_of_fault BadRoles = 3
status_of_fault TooMany = 3

-- the exit status without a setup: 4 if its file can't be read
abbrev pub status_of_conf : ConfFault → ℕ
status_of_conf (Unreadable fault) = 4
status_of_conf (Refused fault) = status_of_fault fault
