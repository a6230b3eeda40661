use Rattle.std.proofs.Common.{take}
use Rattle.testing_install.specs.Dependents.{names, IsNotedAt}
use Rattle.testing_install.proofs.dependents.note_clause.Given as goal

abbrev pub invariant-loop-alternative : goal.invariant-loop-alternative
invariant-loop-alternative l = IsNotedAt (names (take l.alternative-index l.clause)) l.fn.dependents l.dependents l.place
