use Rattle.std.specs.List.{AllWithin}
use Rattle.testing_install.proofs.Finding.{IsUnsatisfied}
use Rattle.testing_install.specs.Closed.{marked}
use Rattle.testing_install.specs.Rows.{binaries}
use Rattle.testing_install.proofs.find.find_first.Given as goal

abbrev pub invariant-loop-alternative : goal.invariant-loop-alternative
invariant-loop-alternative l = AllWithin (IsUnsatisfied (binaries l.rows) (marked l.marks)) l.clause 0 l.alternative-index
