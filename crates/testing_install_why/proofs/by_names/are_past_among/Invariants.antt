use Rattle.std.specs.List.{AllWithin}
use Rattle.testing_install.specs.Rows.{binaries}
use Rattle.testing_install_why.specs.steps.Checking.{IsPast}
use Rattle.testing_install_why.proofs.by_names.are_past_among.Given as goal

-- those so far
abbrev pub invariant-loop-number : goal.invariant-loop-number
invariant-loop-number l = AllWithin (IsPast (binaries l.rows) l.steps l.binary l.place) l.numbers 0 l.number-index
