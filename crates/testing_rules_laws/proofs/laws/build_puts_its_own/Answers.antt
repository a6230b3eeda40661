use Rattle.testing_rules_model.specs.Covered.{placed_from, builds_in}
use Rattle.testing_rules_model.specs.Unstable.{is_above_drops}
use Rattle.testing_rules_model.proofs.MoreMail.{rows-build}
use Rattle.testing_rules_laws.proofs.laws.build_puts_its_own.Goals as goal

pub returns : goal.returns
returns c = λ s m bs h.
    rw h (rows-build (is_above_drops s) (placed_from 1 m.sender m.number bs) (builds_in s))
