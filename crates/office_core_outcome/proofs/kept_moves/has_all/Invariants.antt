use Rattle.std.proofs.Common.{◌≡◌, drop}
use Rattle.std.specs.List.{list_all}
use Rattle.testing_rules_reports.specs.steps.LentLines.{has_line, lent_lines}
use Rattle.office_core_outcome.proofs.kept_moves.has_all.Given as goal

-- the rest decides
abbrev pub invariant-loop-name : goal.invariant-loop-name
invariant-loop-name l = list_all (has_line l.set.keys) (lent_lines (drop l.name-index l.names)) ≡ list_all (has_line l.set.keys) (lent_lines l.names)
