-- What the statements on the tables of facts show, and how they change them.
use Rattle.std.specs.Prelude.{◌≡◌, ◌≢◌, ◌≤◌, ◌<◌, ◌⊎◌, ◌&&◌, Bool, true, false, not, ℕ, ℤ, pos, List, [], ◌∷◌, length, map, filter, Option, Some, None, ⊤}
use Rattle.std.specs.FinMap.{insert, remove}
use Rattle.std.specs.Ordering.{is_eq}
use Rattle.std.specs.List.Sorted.{IsPermutation}
use Rattle.sqlite_rules.specs.Lists.{Has}
use Rattle.sqlite_rules.specs.Edit.{is_taken}
use Rattle.sqlite.specs.Order.{Row, column, value_cmp}
use Rattle.sqlite.specs.Tree.{Trees, rowid, put_row}
use Rattle.sqlite.specs.declared.types.Value.TheVariants.{Int}
use Rattle.testing_rules_model.specs.declared.fact_row.FactKind.TheVariants.{Delays}
use Rattle.testing_rules_model.specs.declared.fact_row.FactRow.{FactRow}
use Rattle.testing_rules_model.specs.FactRows.{number_of, is_kind}
use Rattle.testing_rules_model.specs.declared.fact_row.FactChanges.{FactChanges}
use Rattle.office_store_keeper.specs.FactSet.{FactSet, without_rows, with_rows, facts_after}
use Rattle.office_store_testing_tables.specs.Tables.{number_in, small_in}
use Rattle.office_store_testing_tables.specs.steps.TableSteps.{rows_in}
use Rattle.office_store_testing_tables.specs.Legible.{AreRead}
use Rattle.office_store_testing_tables.specs.FactTables.{fact_entry, may_stand, fact_of, fact_in, delays_of, delays_by, delays_in, facts_in}

-- the shown part of a row of facts: its rowid and its columns
abbrev pub fact_columns : Row → Row
fact_columns row = column row 0 ∷ column row 1 ∷ column row 2 ∷ column row 3 ∷ column row 4 ∷ []

-- the shown part of a row of the last delays: all but its copy of the rowid
abbrev pub delays_columns : Row → Row
delays_columns row = column row 0 ∷ column row 2 ∷ []

-- the content of a shown row of the last delays
unfoldable pub shown_delays : ℕ → Row → Option (FactRow × ⊤)
shown_delays release row = delays_by release (number_in (column row 0)) (small_in (column row 1))

-- the result from the shown rows of the last delays: the content of the only one, if there is one
abbrev pub IsOnlyDelays : ℕ → Option FactRow → List Row → Type 0
IsOnlyDelays release None rows = rows ≡ []
IsOnlyDelays release (Some fact) rows = (row : Row) × (rows ≡ row ∷ []) × (shown_delays release row ≡ Some (fact_entry fact))

-- the row compares equal, as SQL's = does, to this fact
abbrev pub is_fact : FactRow → Row → Bool
is_fact fact row =
    is_eq (value_cmp (column row 1) (Int (pos (number_of fact.kind))))
    && (is_eq (value_cmp (column row 2) (Int (pos fact.sender))) && (is_eq (value_cmp (column row 3) (Int (pos fact.number))) && is_eq (value_cmp (column row 4) (Int (pos fact.place)))))

-- the row of the last delays compares equal, as SQL's = does, to this number
abbrev pub is_delays : ℕ → Row → Bool
is_delays number row = is_eq (value_cmp (column row 2) (Int (pos number)))

-- the rowid alone
abbrev pub id_columns : Row → Row
id_columns row = column row 0 ∷ []

-- the result from the shown rowids: the only one, or none
abbrev pub IsOnlyId : Option ℤ → List Row → Type 0
IsOnlyId None rows = rows ≡ []
IsOnlyId (Some id) rows = (row : Row) × (rows ≡ row ∷ []) × (column row 0 ≡ Int id)

-- a look-up of the rows that pass a test found this rowid, or none
pub record IsRowidFound (test : Row → Bool) (rows : List Row) (id : Option ℤ) : Type 0 where
  pub shown : List Row
  pub are : IsPermutation (map id_columns (filter test rows)) shown
  pub only : IsOnlyId id shown

-- one fact's row was added, with a new rowid, and the other tables are unchanged
pub record AddsFact (db next : Trees) (fact : FactRow) : Type 0 where
  pub row : Row
  pub says : fact_in row ≡ fact_of fact
  pub free : is_taken (db 8) row ≡ false
  pub put : rows_in next ≡ record (rows_in db) { facts = put_row row (db 8) }

-- a statement's values for a fact
abbrev pub fact_parameters : FactRow → Row
fact_parameters fact = Int (pos (number_of fact.kind)) ∷ Int (pos fact.sender) ∷ Int (pos fact.number) ∷ Int (pos fact.place) ∷ []

-- the numbers of a fact fit in 32 bits; the number of its kind always does
abbrev pub FitsFact : FactRow → Type 0
FitsFact fact = (fact.sender < 4_294_967_296) × (fact.number < 4_294_967_296) × (fact.place < 4_294_967_296)

-- a fact other than the last delays
abbrev pub is_no_delays : FactRow → Bool
is_no_delays fact = not (is_kind fact.kind Delays)

-- rows of these facts were added one by one, and the other tables are unchanged
abbrev pub AddsFacts : Trees → Trees → List FactRow → Type 0
AddsFacts db next [] = next ≡ db
AddsFacts db next (fact ∷ facts) = (mid : Trees) × AddsFact db mid fact × AddsFacts mid next facts

-- a row of the last delays was added, with the rowid 1, and the other tables are unchanged
pub record AddsDelays (db next : Trees) (number : ℕ) : Type 0 where
  pub row : Row
  pub id : rowid row ≡ Int (pos 1)
  pub says : (release : ℕ) → delays_in release row ≡ Some (fact_entry (delays_of release number))
  pub free : is_taken (db 10) row ≡ false
  pub put : rows_in next ≡ record (rows_in db) { delays = put_row row (db 10) }

-- the tables have a place for the fact
abbrev pub CanStand : ℕ → FactRow → Type 0
CanStand release fact = (may_stand fact.kind fact.place ≡ true) ⊎ (fact ≡ delays_of release fact.number)

-- the tables have a place for each fact
abbrev pub CanStandEach : ℕ → List FactRow → Type 0
CanStandEach release facts = (fact : FactRow) → Has facts fact → CanStand release fact

-- the facts in both tables change in this way, and the tables stay readable
pub record MovesFacts (release : ℕ) (db next : Trees) (made : FactSet → FactSet) : Type 0 where
  pub has : facts_in release (next 8) (next 10) ≡ made (facts_in release (db 8) (db 10))
  pub reads : AreRead release (db 8) (db 10) → AreRead release (next 8) (next 10)

-- only the tables of facts may have changed
pub record KeepsOthers (db next : Trees) : Type 0 where
  pub rest : rows_in next ≡ record (rows_in db) { facts = next 8; delays = next 10 }

-- no row of the table says this fact, and every row that says another is left
pub record Leaves (reads : Row → Option (FactRow × ⊤)) (fact : FactRow) (rows next : List Row) : Type 0 where
  pub gone : (row : Row) → Has next row → reads row ≡ Some (fact_entry fact) → ⊥
  pub had : (row : Row) → Has next row → Has rows row
  pub others : (row : Row) (other : FactRow) → Has rows row → reads row ≡ Some (fact_entry other) → other ≢ fact → Has next row
  pub fewer : length next ≤ length rows

-- a fact is removed from the table of facts, and the other tables are unchanged
pub record DropsFact (db next : Trees) (fact : FactRow) : Type 0 where
  pub leaves : Leaves fact_in fact (db 8) (next 8)
  pub rest : rows_in next ≡ record (rows_in db) { facts = next 8 }

-- the delays under a number are removed from their table, and the other tables are unchanged
pub record DropsDelays (db next : Trees) (number : ℕ) : Type 0 where
  pub leaves : (release : ℕ) → Leaves (delays_in release) (delays_of release number) (db 10) (next 10)
  pub rest : rows_in next ≡ record (rows_in db) { delays = next 10 }

-- one fact is removed
pub record DropsOne (release : ℕ) (db next : Trees) (fact : FactRow) : Type 0 where
  pub moves : MovesFacts release db next (λ facts. remove facts fact)
  pub others : KeepsOthers db next

-- one fact is added, if there is a place for it
pub record AddsOne (release : ℕ) (db next : Trees) (fact : FactRow) : Type 0 where
  pub moves : CanStand release fact → MovesFacts release db next (λ facts. insert facts fact tt)
  pub others : KeepsOthers db next

-- these facts are removed
pub record DropsEach (release : ℕ) (db next : Trees) (facts : List FactRow) : Type 0 where
  pub moves : MovesFacts release db next (without_rows facts)
  pub others : KeepsOthers db next

-- these facts are added, if there is a place for each
pub record AddsEach (release : ℕ) (db next : Trees) (facts : List FactRow) : Type 0 where
  pub moves : CanStandEach release facts → MovesFacts release db next (with_rows facts)
  pub others : KeepsOthers db next

-- the facts are changed
pub record ChangesFacts (release : ℕ) (db next : Trees) (changes : FactChanges) : Type 0 where
  pub moves : CanStandEach release changes.put → MovesFacts release db next (facts_after changes)
  pub others : KeepsOthers db next
