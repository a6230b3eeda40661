use Rattle.std.proofs.Common.{◌≡◌, ◌++◌, string_bytes, take}
use Rattle.std.specs.List.{flat_map}
use Rattle.testing_rules_reports.specs.Reports.{decision_line}
use Rattle.testing_rules_reports.proofs.report.push_decisions.Given as goal

-- the text so far
abbrev pub invariant-loop-decision : goal.invariant-loop-decision
invariant-loop-decision l = string_bytes l.text ≡ string_bytes l.fn.text ++ flat_map (decision_line l.archs) (take l.decision-index l.decisions)
