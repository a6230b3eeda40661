use Rattle.std.proofs.Common.{◌≡◌, take}
use Rattle.testing_install.specs.Rows.{binaries}
use Rattle.testing_rules_model.specs.JudgedRows.{lent}
use Rattle.testing_rules_refusals.specs.Needs.{packages}
use Rattle.testing_rules_refusals.proofs.shown.packages_of.Given as goal

-- those so far
abbrev pub invariant-loop-row : goal.invariant-loop-row
invariant-loop-row l = binaries l.list.items ≡ packages (lent (take l.row-index l.rows))
