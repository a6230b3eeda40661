-- How the rows of a table are compared with its wanted entries, and changed until it has exactly these.
use Rattle.std.specs.Prelude.{◌≡◌, ◌<◌, ◌≤◌, ◌+◌, ◌++◌, ℕ, List, length, map, take, drop, Option, Some}
use Rattle.std.specs.List.{slice_get}
use Rattle.std.specs.List.Sorted.{IsPermutation}
use Rattle.sqlite.specs.Order.{Row, column}
use Rattle.sqlite.specs.Tree.{Trees}
use Rattle.sqlite.specs.declared.types.Value.TheVariants.{Int}
use Rattle.office_store_testing_tables.specs.declared.differences.Change.{Change}
use Rattle.office_store_testing_tables.specs.declared.differences.Change.TheVariants.{Stays, Leaves, Comes}
use Rattle.office_store_testing_tables.specs.steps.TableSteps.{rows_in}
use Rattle.office_store_testing_tables.specs.declared.rowids.ChangedTable.{ChangedTable}
use Rattle.office_store_testing_tables.specs.steps.ChangedTables.{place_of, with_table}

-- the change fits the lists from these places on: it stays and the next row says the next entry, or the next row has
-- the leaving rowid, or a next entry comes
abbrev pub Agrees : {X E : Type 0} → (Row → Option E) → (X → E) → List Row → List X → ℕ → ℕ → Change → Type 0
Agrees {X} says entry shown new i j Stays = (row : Row) × (x : X) × (slice_get shown i ≡ Some row) × (slice_get new j ≡ Some x) × (says row ≡ Some (entry x))
Agrees says entry shown new i j (Leaves id) = (row : Row) × (slice_get shown i ≡ Some row) × (column row 0 ≡ Int id)
Agrees says entry shown new i j Comes = j < length new

-- at least one of two places in lists of these lengths advanced, and neither went back
pub record GoesOn (n m i j k l : ℕ) : Type 0 where
  pub shown : i ≤ k
  pub new : j ≤ l
  pub either : i + j < k + l
  pub within_shown : k ≤ n
  pub within_new : l ≤ m

-- The table has the shown rows from a place on, and before them exactly one row for each new entry up to a place.
pub record AreCompared {X E : Type 0} (columns : Row → Row) (says : Row → Option E) (entry : X → E) (table shown : List Row) (new : List X) (i j : ℕ) : Type 0 where
  pub done : List Row
  pub are : IsPermutation (map columns table) (done ++ drop i shown)
  pub said : map says done ≡ map (λ x. Some (entry x)) (take j new)

-- the rows of one table are compared so far, and the other tables are unchanged
pub record TableCompared {X E : Type 0} (table : ChangedTable) (columns : Row → Row) (says : Row → Option E) (entry : X → E) (db next : Trees) (shown : List Row) (new : List X) (i j : ℕ) : Type 0 where
  pub compared : AreCompared columns says entry (next (place_of table)) shown new i j
  pub rest : rows_in next ≡ with_table table (next (place_of table)) (rows_in db)

-- the table has one row for each new entry and no other, and the other tables are unchanged
pub record HasAlone {X E : Type 0} (table : ChangedTable) (columns : Row → Row) (says : Row → Option E) (entry : X → E) (db next : Trees) (new : List X) : Type 0 where
  pub rows : List Row
  pub are : IsPermutation (map columns (next (place_of table))) rows
  pub said : map says rows ≡ map (λ x. Some (entry x)) new
  pub rest : rows_in next ≡ with_table table (next (place_of table)) (rows_in db)
