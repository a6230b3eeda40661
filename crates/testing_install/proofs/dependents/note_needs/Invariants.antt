use Rattle.testing_install.specs.Dependents.{IsNotedAt}
use Rattle.testing_install.proofs.Needing.{needs_among}
use Rattle.testing_install.proofs.dependents.note_needs.Given as goal

abbrev pub invariant-loop-clause : goal.invariant-loop-clause
invariant-loop-clause l = IsNotedAt (needs_among l.clause-index l.binary.clauses) l.fn.dependents l.dependents l.place
