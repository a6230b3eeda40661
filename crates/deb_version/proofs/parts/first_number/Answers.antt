use Rattle.std.proofs.Common.{◌≡◌, sym, subst, arith}
use Rattle.std.proofs.lemmas.Grind.{common_steps}
use Rattle.deb_version.specs.steps.Digits.{AreDigits, leading_digits}
use Rattle.deb_version.proofs.Numbers.{AreDigits-run}
use Rattle.deb_version.proofs.Runs.{position_unwrapped}
use Rattle.deb_version.proofs.parts.first_number.Goals as goal

pub invariant_of-result : goal.invariant_of-result
invariant_of-result c =
    let run : c.split_at.result.0.now ≡ leading_digits c.args.part.now = grind (arith, common_steps, position_unwrapped) in
    record { numeric = subst AreDigits (sym run) (AreDigits-run c.args.part.now) }
