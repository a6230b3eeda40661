-- Steps beside `specs/FactSet.antt`.
use Rattle.std.specs.Prelude.{Bool, List}
use Rattle.std.specs.List.{list_any}
use Rattle.testing_rules_model.specs.declared.fact_row.FactRow.{FactRow}
use Rattle.testing_rules_model.specs.FactRows.{is_row}

-- whether a row is one of these
abbrev pub is_among : FactRow → List FactRow → Bool
is_among r rows = list_any (is_row r) rows
