use Rattle.std.proofs.Common.{◌≡◌, ◌++◌, [], filter, string_bytes, take}
use Rattle.std.specs.List.{flat_map}
use Rattle.testing_rules_reports.specs.Changes.{behind}
use Rattle.testing_rules_reports.specs.steps.LentLines.{lent_lines}
use Rattle.office_core_outcome.specs.HintTold.{begins_with_either}
use Rattle.office_core_outcome.proofs.hint_texts.push_begun.Given as goal

-- the text so far
abbrev pub invariant-loop-line : goal.invariant-loop-line
invariant-loop-line l = string_bytes l.text ≡ string_bytes l.fn.text ++ flat_map (behind []) (filter (begins_with_either l.easy l.remove) (lent_lines (take l.line-index l.found)))
