use Rattle.std.proofs.Common.{arith}
use Rattle.testing_install_why.proofs.Naming.{no_providers}
use Rattle.testing_install_why.proofs.order.is_met_at.Goals as goal

pub returns-clause-no : goal.returns-clause-no
returns-clause-no c = λ _. no_providers _ _ _ _ c.loop-place.place-index c.loop-place.invariant (omega arith)
