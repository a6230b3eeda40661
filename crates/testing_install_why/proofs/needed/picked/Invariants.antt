use Rattle.std.proofs.Common.{List}
use Rattle.deb_control.specs.declared.binary.Binary.{Binary}
use Rattle.testing_install_why.specs.steps.Needed.{IsNeeded}
use Rattle.testing_install_why.proofs.Picking.{IsPicked}
use Rattle.testing_install_why.proofs.needed.picked.Given as goal

abbrev pub invariant-loop-number : goal.invariant-loop-number
invariant-loop-number l = (rows : List Binary) → IsNeeded rows l.order l.needed l.last 0 → IsPicked rows l.order l.needed l.number l.steps.items
