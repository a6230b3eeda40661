use Rattle.std.proofs.Common.{◌≡◌, take}
use Rattle.testing_install.specs.Rows.{shared}
use Rattle.testing_rules_model.specs.JudgedRows.{lent}
use Rattle.testing_rules_refusals.specs.Needs.{packages}
use Rattle.testing_rules_refusals.proofs.judged.packages.Given as goal

-- those so far
abbrev pub invariant-loop-row : goal.invariant-loop-row
invariant-loop-row l = shared l.shares.items ≡ packages (lent (take l.row-index l.rows))
