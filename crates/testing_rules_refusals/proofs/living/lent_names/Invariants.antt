use Rattle.std.proofs.Common.{◌≡◌, take}
use Rattle.testing_rules_reports.specs.steps.LentLines.{lent_lines}
use Rattle.testing_rules_refusals.proofs.living.lent_names.Given as goal

-- those so far
abbrev pub invariant-loop-name : goal.invariant-loop-name
invariant-loop-name l = lent_lines l.found.items ≡ take l.name-index l.names
