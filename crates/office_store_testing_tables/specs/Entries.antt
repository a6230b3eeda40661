-- The tables of testing, and their content.
use Rattle.std.specs.Prelude.{ℕ, ℤ, List, filter_map, Option, Some, None}
use Rattle.std.specs.FinMap.{FinMap, from_entries}
use Rattle.sqlite.specs.Order.{Row, column}
use Rattle.sqlite.specs.declared.types.Value.{Value}
use Rattle.sqlite.specs.declared.types.Value.TheVariants.{Int}
use Rattle.testing_rules_items.specs.Words.{byte_cmp}
use Rattle.testing_rules_model.specs.Moves.{row_cmp}
use Rattle.office_mail.specs.Kept.{Place}
use Rattle.office_store_testing_tables.specs.Tables.{small_in, text_in}

-- an integer
abbrev pub integer_in : Value → Option ℤ
integer_in (Int n) = Some n
integer_in _ = None

-- ---- sources

-- the content of a row of sources from its columns, if all are readable
abbrev pub source_by : Option ℤ → Option (List ℕ) → Option ℕ → Option ℕ → Option (List ℕ × Place)
source_by (Some rowid) (Some name) (Some sender) (Some number) = Some (name, (sender, number))
source_by _ _ _ _ = None

-- the content of a row of testing's sources: a name, and the place of the message that gave it
unfoldable pub source_in : Row → Option (List ℕ × Place)
source_in row = source_by (integer_in (column row 0)) (text_in (column row 1)) (small_in (column row 2)) (small_in (column row 3))

-- the sources in the rows, by their names
abbrev pub source_map : List Row → FinMap byte_cmp Place
source_map rows = from_entries (filter_map source_in rows)

-- ---- rows

-- the content of a row of rows from its columns, if all are readable
abbrev pub row_by : Option ℤ → Option ℕ → Option (List ℕ) → Option ℕ → Option ℕ → Option ℕ → Option ((ℕ × List ℕ) × (Place × ℕ))
row_by (Some rowid) (Some arch) (Some name) (Some sender) (Some number) (Some place) = Some ((arch, name), ((sender, number), place))
row_by _ _ _ _ _ _ = None

-- the content of a row of testing's rows: an architecture and a name, and the place of the message and of the paragraph
-- that gave it
unfoldable pub entry_in : Row → Option ((ℕ × List ℕ) × (Place × ℕ))
entry_in row = row_by (integer_in (column row 0)) (small_in (column row 1)) (text_in (column row 2)) (small_in (column row 3)) (small_in (column row 4)) (small_in (column row 5))

-- the rows of testing in the table's rows, by architecture and name
abbrev pub entry_map : List Row → FinMap row_cmp (Place × ℕ)
entry_map rows = from_entries (filter_map entry_in rows)
