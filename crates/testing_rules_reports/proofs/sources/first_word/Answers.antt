use Rattle.std.proofs.Common.{◌≡◌, ◌<◌, ℕ, true, arith}
use Rattle.std.proofs.lemmas.Bool.Decides.{nat_tests}
use Rattle.deb_control.proofs.Ends.{boundary_at_found}
use Rattle.testing_rules_reports.specs.Sources.{is_space}
use Rattle.testing_rules_reports.proofs.sources.first_word.Goals as goal

space_is_ascii : (c : ℕ) → is_space c ≡ true → c < 128
space_is_ascii c h = grind (arith, nat_tests)

pub split_at-requires : goal.split_at-requires
split_at-requires c = boundary_at_found is_space space_is_ascii c.args.line.now _ c.in-Some.ensures
