use Rattle.std.proofs.Common.{◌≡◌, ◌++◌, [], false, drop, string_bytes}
use Rattle.std.specs.List.{flat_map}
use Rattle.testing_rules_reports.specs.Changes.{behind}
use Rattle.testing_rules_reports.specs.steps.LentLines.{lent_lines}
use Rattle.testing_rules_reports.specs.Sources.{own_lines}
use Rattle.testing_rules_reports.proofs.sources.push_own.Given as goal

-- the text so far, and what is left
abbrev pub invariant-lines : goal.invariant-lines
invariant-lines l = string_bytes l.text ++ flat_map (behind []) (own_lines l.name l.own (lent_lines (drop l.line-index l.found))) ≡ string_bytes l.fn.text ++ flat_map (behind []) (own_lines l.name false (lent_lines l.found))
