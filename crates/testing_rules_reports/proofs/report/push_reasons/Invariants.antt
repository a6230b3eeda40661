use Rattle.std.proofs.Common.{◌≡◌, ◌++◌, string_bytes, take}
use Rattle.std.specs.List.{flat_map}
use Rattle.testing_rules_reports.specs.Reports.{inner_line, reason_words}
use Rattle.testing_rules_reports.proofs.report.push_reasons.Given as goal

-- the text so far
abbrev pub invariant-loop-reason : goal.invariant-loop-reason
invariant-loop-reason l = string_bytes l.text ≡ string_bytes l.fn.text ++ flat_map (λ r. inner_line (reason_words l.archs r)) (take l.reason-index l.reasons)
