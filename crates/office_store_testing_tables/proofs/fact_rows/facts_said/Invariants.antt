use Rattle.std.proofs.Common.{◌≡◌, map, take, Some}
use Rattle.office_store_testing_tables.specs.FactTables.{fact_entry, fact_in}
use Rattle.office_store_testing_tables.proofs.fact_rows.facts_said.Given as goal

-- the rows so far say the facts so far
abbrev pub invariant-rows : goal.invariant-rows
invariant-rows l = record { so_far : map fact_in (take l.row-index l.rows) ≡ map Some (map fact_entry l.facts.items) }
