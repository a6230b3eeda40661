use Rattle.std.specs.List.{AllWithin}
use Rattle.testing_install.proofs.Finding.{IsUnsatisfied}
use Rattle.testing_install.specs.Closed.{marked}
use Rattle.testing_install.specs.Rows.{shared}
use Rattle.testing_install.proofs.graph.is_met.Given as goal

abbrev pub invariant-loop-alternative : goal.invariant-loop-alternative
invariant-loop-alternative l = AllWithin (IsUnsatisfied (shared l.graph.rows.items) (marked l.marks)) l.clause 0 l.alternative-index
