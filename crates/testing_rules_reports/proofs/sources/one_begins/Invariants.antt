use Rattle.std.proofs.Common.{◌≡◌, false, nat_eq, take}
use Rattle.std.specs.List.{list_any, starts_with}
use Rattle.testing_rules_reports.specs.steps.LentLines.{lent_lines}
use Rattle.testing_rules_reports.proofs.sources.one_begins.Given as goal

-- none so far
abbrev pub invariant-loop-line : goal.invariant-loop-line
invariant-loop-line l = list_any (λ line. starts_with nat_eq line l.front) (lent_lines (take l.line-index l.found)) ≡ false
