use Rattle.std.proofs.Common.{◌≡◌, ◌++◌, filter, not, string_bytes, take}
use Rattle.std.specs.List.{flat_map}
use Rattle.testing_rules_reports.specs.Changes.{behind}
use Rattle.testing_rules_reports.specs.steps.LentLines.{has_line, lent_lines}
use Rattle.testing_rules_reports.proofs.lines.push_without.Given as goal

-- the text so far
abbrev pub invariant-loop-line : goal.invariant-loop-line
invariant-loop-line l = string_bytes l.text ≡ string_bytes l.fn.text ++ flat_map (behind l.word) (filter (λ line. not (has_line l.set.keys line)) (lent_lines (take l.line-index l.found)))
