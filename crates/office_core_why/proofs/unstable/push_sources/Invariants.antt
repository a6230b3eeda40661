use Rattle.std.proofs.Common.{◌≡◌, ◌++◌, string_bytes, take}
use Rattle.std.specs.List.{flat_map}
use Rattle.testing_rules_model.specs.Boxed.{unboxed}
use Rattle.testing_rules_model.specs.Moves.{as_source}
use Rattle.testing_rules_reports.specs.Reports.{source_line}
use Rattle.office_core_why.proofs.unstable.push_sources.Given as goal

-- the text so far
abbrev pub invariant-loop-boxed : goal.invariant-loop-boxed
invariant-loop-boxed l = string_bytes l.text ≡ string_bytes l.fn.text ++ flat_map (λ u. source_line (as_source u)) (unboxed (take l.boxed-index l.sources))
