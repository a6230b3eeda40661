-- The tables of facts, and their content.
use Rattle.std.specs.Prelude.{◌&&◌, ◌||◌, ◌==◌, ◌++◌, not, if◌then◌else◌, Bool, ℕ, ℤ, List, filter_map, Option, Some, None, option_and_then, ⊤}
use Rattle.std.specs.FinMap.{from_entries}
use Rattle.sqlite.specs.declared.types.Value.{Value}
use Rattle.sqlite.specs.Order.{Row, column}
use Rattle.testing_rules_model.specs.declared.fact_row.FactKind.{FactKind}
use Rattle.testing_rules_model.specs.declared.fact_row.FactKind.TheVariants.{Build, Delays}
use Rattle.testing_rules_model.specs.declared.fact_row.FactRow.{FactRow}
use Rattle.testing_rules_model.specs.FactRows.{kind_of, is_kind}
use Rattle.office_store_keeper.specs.FactSet.{FactSet}
use Rattle.office_store_testing_tables.specs.Tables.{number_in, small_in}
use Rattle.office_store_testing_tables.specs.Entries.{integer_in}

-- a fact, as an entry of a set
abbrev pub fact_entry : FactRow → FactRow × ⊤
fact_entry fact = (fact, tt)

-- the kind whose number is in a column
abbrev pub kind_in : Value → Option FactKind
kind_in value = option_and_then kind_of (small_in value)

-- whether the table of facts may have a row of this kind with this place
abbrev pub may_stand : FactKind → ℕ → Bool
may_stand kind place = not (is_kind kind Delays) && (is_kind kind Build || (place == 0))

-- a fact, if the table of facts may have its row
abbrev pub fact_of : FactRow → Option (FactRow × ⊤)
fact_of fact = if may_stand fact.kind fact.place then Some (fact_entry fact) else None

-- the content of a row of facts from its columns, if all are readable
abbrev pub fact_by : Option ℤ → Option FactKind → Option ℕ → Option ℕ → Option ℕ → Option (FactRow × ⊤)
fact_by (Some rowid) (Some kind) (Some sender) (Some number) (Some place) = fact_of (record { kind = kind; sender = sender; number = number; place = place })
fact_by _ _ _ _ _ = None

-- the content of a row of the table of facts
unfoldable pub fact_in : Row → Option (FactRow × ⊤)
fact_in row = fact_by (integer_in (column row 0)) (kind_in (column row 1)) (small_in (column row 2)) (small_in (column row 3)) (small_in (column row 4))

-- the fact of the delays under a number of the release team at this place
abbrev pub delays_of : ℕ → ℕ → FactRow
delays_of release number = record { kind = Delays; sender = release; number = number; place = 0 }

-- the content of a row of the last delays from its columns, if its id is 1
abbrev pub delays_by : ℕ → Option ℕ → Option ℕ → Option (FactRow × ⊤)
delays_by release (Some id) (Some number) = if id == 1 then Some (fact_entry (delays_of release number)) else None
delays_by _ _ _ = None

-- the content of the row with the id 1 in the table of the last delays
unfoldable pub delays_in : ℕ → Row → Option (FactRow × ⊤)
delays_in release row = delays_by release (number_in (column row 0)) (small_in (column row 2))

-- the facts in the rows of both tables
unfoldable pub facts_in : ℕ → List Row → List Row → FactSet
facts_in release facts delays = from_entries (filter_map fact_in facts ++ filter_map (delays_in release) delays)
