use Rattle.std.proofs.Common.{◌≡◌, ◌++◌, string_bytes, take}
use Rattle.std.specs.List.{flat_map}
use Rattle.testing_rules_reports.specs.Reports.{source_line}
use Rattle.testing_rules_reports.proofs.report.push_sources.Given as goal

-- the text so far
abbrev pub invariant-loop-source : goal.invariant-loop-source
invariant-loop-source l = string_bytes l.text ≡ string_bytes l.fn.text ++ flat_map source_line (take l.source-index l.sources)
