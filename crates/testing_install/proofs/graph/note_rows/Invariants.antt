use Rattle.std.proofs.Common.{◌≡◌, ◌++◌, List, length}
use Rattle.deb_control.specs.declared.binary.Binary.{Binary}
use Rattle.testing_install.proofs.Sharing.{IsGraphTo}
use Rattle.testing_install.specs.steps.Dependents.{IsGraph}
use Rattle.testing_install.specs.Rows.{shared}
use Rattle.testing_install.proofs.graph.note_rows.Given as goal

abbrev pub invariant-loop-place : goal.invariant-loop-place
invariant-loop-place l = (old more : List Binary) → shared l.rows ≡ old ++ more → length old ≡ l.first → IsGraph old l.fn.providers l.fn.dependents → IsGraphTo (shared l.rows) l.providers l.dependents l.place
