use Rattle.std.proofs.Common.{◌≡◌, take, map}
use Rattle.testing_install.specs.Rows.{binaries}
use Rattle.testing_rules_model.specs.JudgedRows.{lent}
use Rattle.office_core_breaks.proofs.broken.marks_of.Given as goal

-- those so far
abbrev pub invariant-loop-row : goal.invariant-loop-row
invariant-loop-row l = binaries l.packages.items ≡ map (λ r. r.binary) (lent (take l.row-index l.rows))
