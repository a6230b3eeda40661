-- Where texts are cut stands ASCII.
use Rattle.std.proofs.Common.{◌≡◌, ℕ, ◌<◌, true, arith}
use Rattle.std.proofs.lemmas.Bool.Decides.{nat_tests}
use Rattle.office_mail_setup.specs.Values.{ends_urgency}

pub urgency_ends_in_ascii : (c : ℕ) → ends_urgency c ≡ true → c < 128
urgency_ends_in_ascii c h = grind (arith, nat_tests)
