use Rattle.std.proofs.Common.{◌≡◌, take, map}
use Rattle.testing_rules_model.specs.declared.suite.RowIn.{RowIn}
use Rattle.testing_rules_model.specs.JudgedRows.{lent}
use Rattle.testing_rules_reports.specs.steps.LentLines.{lent_lines}
use Rattle.testing_rules_refusals.proofs.living.package_names.Given as goal

-- those so far
abbrev pub invariant-loop-row : goal.invariant-loop-row
invariant-loop-row l = lent_lines l.found.items ≡ map (λ (r : RowIn). r.binary.name) (lent (take l.row-index l.rows))
