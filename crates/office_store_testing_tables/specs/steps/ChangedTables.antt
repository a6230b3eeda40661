-- The tables that a finished run changes row by row.
use Rattle.std.specs.Prelude.{◌≡◌, false, ℕ, ℤ, List, [], ◌∷◌, length, filter, Option, Some}
use Rattle.sqlite_rules.specs.Edit.{is_taken}
use Rattle.sqlite.specs.declared.types.Value.TheVariants.{Int}
use Rattle.sqlite.specs.Order.{Row}
use Rattle.sqlite.specs.Tree.{Trees, rowid, has_rowid, without_rowid, put_row}
use Rattle.office_store_testing_tables.specs.declared.rowids.ChangedTable.{ChangedTable}
use Rattle.office_store_testing_tables.specs.declared.rowids.ChangedTable.TheVariants as changed
use Rattle.office_store_testing_tables.specs.steps.Texts.{take_source_text, take_row_text, take_fact_text, take_delays_text}
use Rattle.office_store_testing_tables.specs.steps.TableSteps.{Rows, rows_in}

-- the place of a table's rows
abbrev pub place_of : ChangedTable → ℕ
place_of changed.Sources = 4
place_of changed.Rows = 6
place_of changed.Facts = 8
place_of changed.Delays = 10

-- the rows of the tables, with other rows in one of them
abbrev pub with_table : ChangedTable → List Row → Rows → Rows
with_table changed.Sources rows all = record all { sources = rows }
with_table changed.Rows rows all = record all { rows = rows }
with_table changed.Facts rows all = record all { facts = rows }
with_table changed.Delays rows all = record all { delays = rows }

-- the statement that removes the rows with a rowid from a table
abbrev pub take_text : ChangedTable → List ℕ
take_text changed.Sources = take_source_text
take_text changed.Rows = take_row_text
take_text changed.Facts = take_fact_text
take_text changed.Delays = take_delays_text

-- this many rows had the rowid, and if it was one, that row is removed
pub record TakesOut (rows next : List Row) (id : ℤ) (count : ℕ) : Type 0 where
  pub counted : count ≡ length (filter (has_rowid id) rows)
  pub left : (row : Row) → filter (has_rowid id) rows ≡ row ∷ [] → rowid row ≡ Int id → next ≡ without_rowid id rows

-- the rows with this rowid were removed from the table, and the other tables are unchanged
pub record Takes (table : ChangedTable) (db next : Trees) (id : ℤ) (count : ℕ) : Type 0 where
  pub taken : TakesOut (db (place_of table)) (next (place_of table)) id count
  pub rest : rows_in next ≡ with_table table (next (place_of table)) (rows_in db)

-- a row that says this was added to the table, with a new rowid, and the other tables are unchanged
pub record Adds {E : Type 0} (table : ChangedTable) (reads : Row → Option E) (db next : Trees) (said : E) : Type 0 where
  pub row : Row
  pub says : reads row ≡ Some said
  pub free : is_taken (db (place_of table)) row ≡ false
  pub put : rows_in next ≡ with_table table (put_row row (db (place_of table))) (rows_in db)

-- rows that say these were added to the table one by one, and the other tables are unchanged
abbrev pub AddsAll : {E : Type 0} → ChangedTable → (Row → Option E) → Trees → Trees → List E → Type 0
AddsAll table reads db next [] = next ≡ db
AddsAll table reads db next (said ∷ more) = (mid : Trees) × Adds table reads db mid said × AddsAll table reads mid next more
