-- What the statements on the tables of testing show, and how they change them.
use Rattle.std.specs.Prelude.{◌≡◌, ◌<◌, ℕ, pos, List, [], ◌∷◌, map, refl}
use Rattle.std.specs.FinMap.{from_entries}
use Rattle.sqlite.specs.Order.{Row, column}
use Rattle.sqlite.specs.declared.types.Value.TheVariants.{Int, Text}
use Rattle.sqlite.specs.Tree.{Trees}
use Rattle.testing_rules_model.specs.declared.suite.SourceIn.{SourceIn}
use Rattle.testing_rules_model.specs.declared.suite.RowIn.{RowIn}
use Rattle.testing_rules_model.specs.Moves.{row_key}
use Rattle.office_mail.specs.Kept.{Place}
use Rattle.office_store_testing_tables.specs.Tables.{IsWhole}
use Rattle.office_store_testing_tables.specs.steps.TableSteps.{rows_in}
use Rattle.office_store_testing_tables.specs.Entries.{source_in, source_map, entry_in, entry_map}

-- ---- sources

-- the shown part of a row of testing's sources: its rowid and its columns
abbrev pub source_columns : Row → Row
source_columns row = column row 0 ∷ column row 1 ∷ column row 2 ∷ column row 3 ∷ []

-- the shown part says what the row says
pub source_shown : (row : Row) → source_in (source_columns row) ≡ source_in row
unfolding source_in
source_shown row = refl

-- a source of testing in the form of its table
abbrev pub source_entry : SourceIn → List ℕ × Place
source_entry s = (s.name, (s.sender, s.number))

-- a statement's values for a source
abbrev pub source_parameters : List ℕ → ℕ → ℕ → Row
source_parameters name sender number = Text name ∷ Int (pos sender) ∷ Int (pos number) ∷ []

-- the numbers of a source fit in 32 bits
abbrev pub FitsSource : ℕ → ℕ → Type 0
FitsSource sender number = (sender < 4_294_967_296) × (number < 4_294_967_296)

-- the table has exactly these sources, it stays whole, and the other tables are unchanged
pub record SetsSources (db next : Trees) (sources : List SourceIn) : Type 0 where
  pub has : source_map (next 4) ≡ from_entries (map source_entry sources)
  pub whole : IsWhole (source_map (db 4)) (db 4) → IsWhole (source_map (next 4)) (next 4)
  pub rest : rows_in next ≡ record (rows_in db) { sources = next 4 }

-- ---- rows

-- the shown part of a row of testing's rows: its rowid and its columns
abbrev pub entry_columns : Row → Row
entry_columns row = column row 0 ∷ column row 1 ∷ column row 2 ∷ column row 3 ∷ column row 4 ∷ column row 5 ∷ []

-- the shown part says what the row says
pub row_shown : (row : Row) → entry_in (entry_columns row) ≡ entry_in row
unfolding entry_in
row_shown row = refl

-- a row of testing in the form of its table
abbrev pub row_entry : RowIn → (ℕ × List ℕ) × (Place × ℕ)
row_entry r = (row_key r, ((r.sender, r.number), r.place))

-- a statement's values for a row
abbrev pub row_parameters : ℕ → List ℕ → ℕ → ℕ → ℕ → Row
row_parameters arch name sender number place = Int (pos arch) ∷ Text name ∷ Int (pos sender) ∷ Int (pos number) ∷ Int (pos place) ∷ []

-- the numbers of a row fit in 32 bits
abbrev pub FitsRow : ℕ → ℕ → ℕ → ℕ → Type 0
FitsRow arch sender number place = (arch < 4_294_967_296) × (sender < 4_294_967_296) × (number < 4_294_967_296) × (place < 4_294_967_296)

-- the table has exactly these rows, it stays whole, and the other tables are unchanged
pub record SetsRows (db next : Trees) (rows : List RowIn) : Type 0 where
  pub has : entry_map (next 6) ≡ from_entries (map row_entry rows)
  pub whole : IsWhole (entry_map (db 6)) (db 6) → IsWhole (entry_map (next 6)) (next 6)
  pub rest : rows_in next ≡ record (rows_in db) { rows = next 6 }
