-- How a schema is recognised as the office's: its tables and indexes, one by one.
use Rattle.sqlite.specs.Table.{Table}
use Rattle.sqlite_schema.specs.declared.schema.Index.{Index}
use Rattle.sqlite_value.specs.Keys.{plain}
use Rattle.std.specs.Prelude.{true, false, [], ◌∷◌, Some, None, codes, List, ℕ, ◌≡◌}
use Rattle.office_store_tables.specs.Layout.{office, mail, run, testing_source, testing_row, fact, fact_delays, standing}

-- a table without CHECK, computed defaults and AUTOINCREMENT
pub record IsBare (table : Table) : Type 0 where
  pub checks : table.checks ≡ []
  pub computed : table.computed ≡ []
  pub places : table.stamps.places ≡ []
  pub terms : table.stamps.terms ≡ []
  pub formats : table.stamps.formats ≡ []
  pub is_counted : table.is_counted ≡ false

-- a table has this name and tree
pub record IsAt (name : List ℕ) (tree : ℕ) (table : Table) : Type 0 where
  pub name_is : table.name ≡ name
  pub tree_is : table.tree ≡ tree

-- a table's key is its first column
pub record IsNumbered (table : Table) : Type 0 where
  pub key : table.key ≡ Some 0
  pub primary : table.primary ≡ 0 ∷ []
  pub uniques : table.uniques ≡ []
  pub orders : table.orders ≡ []

-- a table's only key is the columns at these places
pub record IsKeyed (places : List ℕ) (table : Table) : Type 0 where
  pub key : table.key ≡ None
  pub primary : table.primary ≡ places
  pub uniques : table.uniques ≡ places ∷ []
  pub orders : table.orders ≡ plain ∷ []

-- the index of the only key of a table
abbrev pub key_index : List ℕ → ℕ → ℕ → List ℕ → Index
key_index name tree table places = record { name = name; tree = tree; table = table; columns = places; order = plain; is_unique = true }

-- the tables in their trees, and the indexes of their keys
unfoldable pub office_tables : List Table
office_tables = standing office 0 ∷ standing mail 1 ∷ standing run 3 ∷ standing testing_source 4 ∷ standing testing_row 6 ∷ standing fact 8 ∷ standing fact_delays 10 ∷ []

-- those of schema 1
unfoldable pub tables_before : List Table
tables_before = standing office 0 ∷ standing mail 1 ∷ standing run 3 ∷ standing testing_source 4 ∷ standing testing_row 6 ∷ standing fact 8 ∷ []

unfoldable pub mail_index : Index
mail_index = key_index (codes "sqlite_autoindex_mail_1") 2 1 (1 ∷ 2 ∷ [])

unfoldable pub testing_source_index : Index
testing_source_index = key_index (codes "sqlite_autoindex_testing_source_1") 5 4 (1 ∷ [])

unfoldable pub testing_row_index : Index
testing_row_index = key_index (codes "sqlite_autoindex_testing_row_1") 7 6 (1 ∷ 2 ∷ [])

unfoldable pub fact_index : Index
fact_index = key_index (codes "sqlite_autoindex_fact_1") 9 8 (1 ∷ 2 ∷ 3 ∷ 4 ∷ [])

unfoldable pub office_indexes : List Index
office_indexes = mail_index ∷ testing_source_index ∷ testing_row_index ∷ fact_index ∷ []
