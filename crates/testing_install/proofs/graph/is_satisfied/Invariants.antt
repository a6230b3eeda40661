use Rattle.std.specs.List.{AllWithin}
use Rattle.testing_install.proofs.Finding.{IsOut}
use Rattle.testing_install.specs.Closed.{marked}
use Rattle.testing_install.specs.Rows.{shared}
use Rattle.testing_install.proofs.graph.is_satisfied.Given as goal

abbrev pub invariant-loop-place : goal.invariant-loop-place
invariant-loop-place l = AllWithin (IsOut (shared l.graph.rows.items) (marked l.marks) l.alternative) l.places 0 l.place-index
