use Rattle.std.proofs.Common.{◌≡◌, true}
use Rattle.std.specs.List.{AllWithin}
use Rattle.std.specs.Option.{option_copied}
use Rattle.testing_install.specs.Closed.{IsMet, marked}
use Rattle.testing_install.specs.steps.Settling.{suspects}
use Rattle.testing_install.specs.Rows.{shared}
use Rattle.testing_install.proofs.settle.is_upheld.Given as goal

abbrev pub invariant-loop-clause : goal.invariant-loop-clause
invariant-loop-clause l = AllWithin (λ clause. suspects (option_copied l.lost) clause ≡ true → IsMet (shared l.graph.rows.items) (marked l.marks) clause) l.binary.clauses 0 l.clause-index
