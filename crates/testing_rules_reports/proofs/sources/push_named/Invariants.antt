use Rattle.std.proofs.Common.{◌≡◌, ◌++◌, [], filter, string_bytes, take}
use Rattle.std.specs.List.{flat_map}
use Rattle.testing_rules_reports.specs.Changes.{behind}
use Rattle.testing_rules_reports.specs.steps.LentLines.{lent_lines}
use Rattle.testing_rules_reports.specs.Sources.{names}
use Rattle.testing_rules_reports.proofs.sources.push_named.Given as goal

-- the text so far
abbrev pub invariant-loop-line : goal.invariant-loop-line
invariant-loop-line l = string_bytes l.text ≡ string_bytes l.fn.text ++ flat_map (behind []) (filter (names l.name) (lent_lines (take l.line-index l.found)))
