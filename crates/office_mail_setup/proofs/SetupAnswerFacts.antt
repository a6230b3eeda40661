-- A fault of a part of a setup.
use Rattle.std.proofs.Common.{◌≡◌, Result, Err}
use Rattle.office_mail_setup.specs.SetupAnswers.{SetupFails}
use Rattle.office_mail_setup.specs.declared.setup.SetupFault.{SetupFault}
use Rattle.office_mail_setup.specs.declared.setup.SetupFault.TheVariants as setup

-- it is a fault of the whole
pub setup_fails_as : {X Y : Type 0} (e : SetupFault) (due : Result X SetupFault) (whole : Result Y SetupFault) → ((f : SetupFault) → due ≡ Err f → whole ≡ Err f) → SetupFails e due → SetupFails e whole
setup_fails_as setup.BadParagraph due whole h p = h setup.BadParagraph p
setup_fails_as (setup.MissingField f) due whole h p = h (setup.MissingField f) p
setup_fails_as setup.BadArchitecture due whole h p = h setup.BadArchitecture p
setup_fails_as setup.BadSender due whole h p = h setup.BadSender p
setup_fails_as setup.BadRoles due whole h p = h setup.BadRoles p
setup_fails_as setup.TooMany due whole h p = h setup.TooMany p
setup_fails_as setup.NoMemory due whole h p = tt
