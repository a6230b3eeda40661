use Rattle.std.proofs.Common.{◌≡◌, ◌++◌, string_bytes, take}
use Rattle.std.specs.List.{flat_map}
use Rattle.testing_rules_reports.specs.Reports.{excuse_text}
use Rattle.testing_rules_reports.proofs.report.push_excuses.Given as goal

-- the text so far
abbrev pub invariant-loop-excuse : goal.invariant-loop-excuse
invariant-loop-excuse l = string_bytes l.text ≡ string_bytes l.fn.text ++ flat_map (excuse_text l.archs) (take l.excuse-index l.excuses)
