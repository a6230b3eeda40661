use Rattle.std.proofs.Common.{◌≡◌, ◌++◌, string_bytes, take}
use Rattle.std.specs.List.{flat_map}
use Rattle.testing_rules_model.specs.JudgedRows.{lent}
use Rattle.testing_rules_reports.specs.Reports.{row_line}
use Rattle.office_core_why.proofs.unstable.push_rows.Given as goal

-- the text so far
abbrev pub invariant-loop-row : goal.invariant-loop-row
invariant-loop-row l = string_bytes l.text ≡ string_bytes l.fn.text ++ flat_map (row_line l.archs) (lent (take l.row-index l.rows))
