use Rattle.std.proofs.Common.{◌≡◌, take}
use Rattle.testing_rules_reports.specs.steps.LentLines.{lent_lines}
use Rattle.testing_rules_reports.proofs.lines.lent_from.Given as goal

-- those so far
abbrev pub invariant-loop-line : goal.invariant-loop-line
invariant-loop-line l = lent_lines l.found.items ≡ take l.line-index l.all
