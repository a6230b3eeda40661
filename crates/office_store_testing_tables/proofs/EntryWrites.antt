-- What the statements on testing make of its tables.
use Rattle.std.proofs.Common.{◌≡◌, ℕ, ℤ, pos, List, [], ◌∷◌, length, map, Some, None, Ok, refl, sym, subst}
use Rattle.std.specs.List.{flat_map, AllByRecursion}
use Rattle.sqlite.specs.declared.types.Value.TheVariants.{Null, Int, Text}
use Rattle.sqlite.specs.Order.{Row}
use Rattle.sqlite.specs.Tree.{Trees}
use Rattle.sqlite.specs.Table.{Table}
use Rattle.sqlite.specs.Term.{Term, lit, col}
use Rattle.sqlite.specs.Cast.{cast_row}
use Rattle.sqlite.specs.Rowids.TheVariants.{Chosen}
use Rattle.sqlite.specs.Edit.{with_rowid}
use Rattle.sqlite_rules.specs.Edit.{next_rowid}
use Rattle.sqlite.specs.Source.TheVariants.{Values}
use Rattle.sqlite.specs.Command.TheVariants.{Insert, Delete}
use Rattle.sqlite.specs.Does.{Does}
use Rattle.sqlite.specs.Listing.{understood}
use Rattle.sqlite.specs.State.{State, Executes, Writes, mode_of}
use Rattle.sqlite.proofs.Callers.{IsPlain, command_of, runs_as, statement_of}
use Rattle.sqlite_tied.specs.Compute.{everything}
use Rattle.testing_rules_model.specs.declared.suite.SourceIn.{SourceIn}
use Rattle.testing_rules_model.specs.declared.suite.RowIn.{RowIn}
use Rattle.office_store_testing_tables.specs.Layout.{office_schema, testing_source, testing_row}
use Rattle.office_store_testing_tables.specs.declared.rowids.ChangedTable.TheVariants as changed
use Rattle.office_store_testing_tables.specs.steps.ChangedTables.{Takes, Adds, AddsAll}
use Rattle.office_store_testing_tables.specs.steps.Texts.{take_source_text, add_source_text, add_eight_sources_text, take_row_text, add_row_text, add_eight_rows_text}
use Rattle.office_store_testing_tables.specs.Entries.{source_in, entry_in}
use Rattle.office_store_testing_tables.proofs.EntrySays.{Fits32, source_says, entry_says}
use Rattle.office_store_testing_tables.specs.steps.EntrySteps.{source_entry, source_parameters, FitsSource, row_entry, row_parameters, FitsRow}
use Rattle.office_store_testing_tables.proofs.Compiled.{plain_query}
use Rattle.office_store_testing_tables.proofs.WriteLemmas.{Inserted, InsertedEach, inserts_one, inserts_each, cast_null, cast_int}
use Rattle.office_store_testing_tables.proofs.Eights.{of_eight}
use Rattle.office_store_testing_tables.proofs.TakeLemmas.{Taken, id_terms, takes_by_id}
use Rattle.office_store_testing_tables.proofs.KeepLemmas.{with_sources, with_rows}

-- ---- sources

take_source_is : (command_of (understood office_schema take_source_text) ≡ Delete 3 (record { lets = []; body = plain_query 4 id_terms (col 1 0 ∷ []) })) × IsPlain (understood office_schema take_source_text)
unfolding understood everything
take_source_is = (refl, (refl, refl))

abbrev source_terms : List Term
source_terms = lit Null ∷ col 0 0 ∷ col 0 1 ∷ col 0 2 ∷ []

add_source_is : (command_of (understood office_schema add_source_text) ≡ Insert 3 (Values source_terms 4)) × IsPlain (understood office_schema add_source_text)
unfolding understood everything
add_source_is = (refl, (refl, refl))

-- the table of testing's sources, where it stands in the schema
abbrev source_table : Table
source_table = record testing_source { tree = 4 }

pub takes_source : (id : ℤ) (old new : State) (count : ℕ) → old.now.schema ≡ office_schema → Executes take_source_text (Int id ∷ []) old new (Ok count) → (new.now.schema ≡ office_schema) × Takes changed.Sources old.now.trees new.now.trees id count
takes_source id old new count has h =
    let command = Delete 3 (record { lets = []; body = plain_query 4 id_terms (col 1 0 ∷ []) }) in
    let text = statement_of take_source_text (understood office_schema take_source_text) in
    let went_on : Writes old new None command text (Int id ∷ []) count = runs_as take_source_text (Int id ∷ []) old new office_schema has command take_source_is.0 take_source_is.1 count h in
    let done = subst (λ s. Does old.step_limit (mode_of old) (Int id ∷ []) (record old.now { schema = s }) text None command (Ok (went_on.tally, new.now))) has went_on.changed in
    let made = takes_by_id office_schema 3 source_table old.step_limit (mode_of old) id text old.now.trees went_on.tally new.now refl refl refl (λ olds. refl) done in
    (made.0, subst (Takes changed.Sources old.now.trees new.now.trees id) (sym went_on.counted) (taken old.now.trees new.now.trees _ made.1))
  where
    taken : (db next : Trees) (n : ℕ) → Taken office_schema source_table db next id n → Takes changed.Sources db next id n
    taken db next n it = record { taken = it.taken; rest = with_sources db next _ it.others refl }

abbrev source_values : List ℕ → ℕ → ℕ → Row
source_values name sender number = Null ∷ Text name ∷ Int (pos sender) ∷ Int (pos number) ∷ []

abbrev source_row : List Row → List ℕ → ℕ → ℕ → Row
source_row rows name sender number = with_rowid Chosen rows (cast_row source_table (source_values name sender number))

source_row_says : (rows : List Row) (name : List ℕ) (sender number : ℕ) → Fits32 sender → Fits32 number → source_in (source_row rows name sender number) ≡ Some (name, (sender, number))
source_row_says rows name sender number s n = source_says (source_row rows name sender number) (next_rowid rows) name sender number (rw cast_null refl) (rw cast_null refl) (rw cast_null (cast_int (pos sender))) (rw cast_null (cast_int (pos number))) s n

added_source : (name : List ℕ) (sender number : ℕ) → FitsSource sender number → (db next : Trees) → Inserted office_schema source_table db next (source_row (db 4) name sender number) → Adds changed.Sources source_in db next (name, (sender, number))
added_source name sender number fits db next it = record {
  row = source_row (db 4) name sender number;
  says = source_row_says (db 4) name sender number fits.0 fits.1;
  free = it.free;
  put = with_sources db next _ it.others it.rows;
}

pub adds_source : (name : List ℕ) (sender number : ℕ) → Fits32 sender → Fits32 number → (old new : State) (count : ℕ) → old.now.schema ≡ office_schema → Executes add_source_text (Text name ∷ Int (pos sender) ∷ Int (pos number) ∷ []) old new (Ok count)
    → (new.now.schema ≡ office_schema) × Adds changed.Sources source_in old.now.trees new.now.trees (name, (sender, number))
adds_source name sender number s n old new count has h =
    let params = Text name ∷ Int (pos sender) ∷ Int (pos number) ∷ [] in
    let command = Insert 3 (Values source_terms 4) in
    let text = statement_of add_source_text (understood office_schema add_source_text) in
    let went_on : Writes old new None command text params count = runs_as add_source_text params old new office_schema has command add_source_is.0 add_source_is.1 count h in
    let done = subst (λ s. Does old.step_limit (mode_of old) params (record old.now { schema = s }) text None command (Ok (went_on.tally, new.now))) has went_on.changed in
    let made = inserts_one office_schema 3 source_table old.step_limit (mode_of old) params text old.now.trees source_terms 4 (source_values name sender number) went_on.tally new.now refl refl refl done in
    (made.0, added_source name sender number (s, n) old.now.trees new.now.trees made.1)

abbrev eight_source_terms : List Term
eight_source_terms = lit Null ∷ col 0 0 ∷ col 0 1 ∷ col 0 2 ∷ lit Null ∷ col 0 3 ∷ col 0 4 ∷ col 0 5 ∷ lit Null ∷ col 0 6 ∷ col 0 7 ∷ col 0 8 ∷ lit Null ∷ col 0 9 ∷ col 0 10 ∷ col 0 11 ∷ lit Null ∷ col 0 12 ∷ col 0 13 ∷ col 0 14 ∷ lit Null ∷ col 0 15 ∷ col 0 16 ∷ col 0 17 ∷ lit Null ∷ col 0 18 ∷ col 0 19 ∷ col 0 20 ∷ lit Null ∷ col 0 21 ∷ col 0 22 ∷ col 0 23 ∷ []

add_eight_sources_is : (command_of (understood office_schema add_eight_sources_text) ≡ Insert 3 (Values eight_source_terms 4)) × IsPlain (understood office_schema add_eight_sources_text)
unfolding understood everything
add_eight_sources_is = (refl, (refl, refl))

abbrev parameters_of : SourceIn → Row
parameters_of s = source_parameters s.name s.sender s.number

abbrev FitEach : List SourceIn → Type 0
FitEach = AllByRecursion (λ s. FitsSource s.sender s.number)

abbrev values_of : SourceIn → Row
values_of s = source_values s.name s.sender s.number

each_source : (db next : Trees) (sources : List SourceIn) → FitEach sources → InsertedEach office_schema source_table db next (map values_of sources) → AddsAll changed.Sources source_in db next (map source_entry sources)
each_source db next [] fits same = same
each_source db next (s ∷ sources) fits it = (it.0, added_source s.name s.sender s.number fits.0 db it.0 it.1, each_source it.0 next sources fits.1 it.2)

pub adds_eight_sources : (old new : State) (count : ℕ) → old.now.schema ≡ office_schema → (sources : List SourceIn) → length sources ≡ 8 → FitEach sources → Executes add_eight_sources_text (flat_map parameters_of sources) old new (Ok count)
    → (new.now.schema ≡ office_schema) × AddsAll changed.Sources source_in old.now.trees new.now.trees (map source_entry sources)
adds_eight_sources old new count has = of_eight (λ sources. FitEach sources → Executes add_eight_sources_text (flat_map parameters_of sources) old new (Ok count) → (new.now.schema ≡ office_schema) × AddsAll changed.Sources source_in old.now.trees new.now.trees (map source_entry sources)) each
  where
    each : (a b c e f g i j : SourceIn) → FitEach (a ∷ b ∷ c ∷ e ∷ f ∷ g ∷ i ∷ j ∷ []) → Executes add_eight_sources_text (flat_map parameters_of (a ∷ b ∷ c ∷ e ∷ f ∷ g ∷ i ∷ j ∷ [])) old new (Ok count)
        → (new.now.schema ≡ office_schema) × AddsAll changed.Sources source_in old.now.trees new.now.trees (map source_entry (a ∷ b ∷ c ∷ e ∷ f ∷ g ∷ i ∷ j ∷ []))
    each a b c e f g i j fits h =
        let params = flat_map parameters_of (a ∷ b ∷ c ∷ e ∷ f ∷ g ∷ i ∷ j ∷ []) in
        let command = Insert 3 (Values eight_source_terms 4) in
        let text = statement_of add_eight_sources_text (understood office_schema add_eight_sources_text) in
        let went_on : Writes old new None command text params count = runs_as add_eight_sources_text params old new office_schema has command add_eight_sources_is.0 add_eight_sources_is.1 count h in
        let done = subst (λ s. Does old.step_limit (mode_of old) params (record old.now { schema = s }) text None command (Ok (went_on.tally, new.now))) has went_on.changed in
        let made = inserts_each office_schema 3 source_table old.step_limit (mode_of old) params text old.now.trees eight_source_terms 4 (values_of a) (map values_of (b ∷ c ∷ e ∷ f ∷ g ∷ i ∷ j ∷ [])) went_on.tally new.now refl refl refl done in
        (made.0, each_source old.now.trees new.now.trees (a ∷ b ∷ c ∷ e ∷ f ∷ g ∷ i ∷ j ∷ []) fits made.1)

-- ---- rows

take_row_is : (command_of (understood office_schema take_row_text) ≡ Delete 4 (record { lets = []; body = plain_query 6 id_terms (col 1 0 ∷ []) })) × IsPlain (understood office_schema take_row_text)
unfolding understood everything
take_row_is = (refl, (refl, refl))

abbrev entry_terms : List Term
entry_terms = lit Null ∷ col 0 0 ∷ col 0 1 ∷ col 0 2 ∷ col 0 3 ∷ col 0 4 ∷ []

add_row_is : (command_of (understood office_schema add_row_text) ≡ Insert 4 (Values entry_terms 6)) × IsPlain (understood office_schema add_row_text)
unfolding understood everything
add_row_is = (refl, (refl, refl))

-- the table of testing's rows, where it stands in the schema
abbrev entry_table : Table
entry_table = record testing_row { tree = 6 }

pub takes_row : (id : ℤ) (old new : State) (count : ℕ) → old.now.schema ≡ office_schema → Executes take_row_text (Int id ∷ []) old new (Ok count) → (new.now.schema ≡ office_schema) × Takes changed.Rows old.now.trees new.now.trees id count
takes_row id old new count has h =
    let command = Delete 4 (record { lets = []; body = plain_query 6 id_terms (col 1 0 ∷ []) }) in
    let text = statement_of take_row_text (understood office_schema take_row_text) in
    let went_on : Writes old new None command text (Int id ∷ []) count = runs_as take_row_text (Int id ∷ []) old new office_schema has command take_row_is.0 take_row_is.1 count h in
    let done = subst (λ s. Does old.step_limit (mode_of old) (Int id ∷ []) (record old.now { schema = s }) text None command (Ok (went_on.tally, new.now))) has went_on.changed in
    let made = takes_by_id office_schema 4 entry_table old.step_limit (mode_of old) id text old.now.trees went_on.tally new.now refl refl refl (λ olds. refl) done in
    (made.0, subst (Takes changed.Rows old.now.trees new.now.trees id) (sym went_on.counted) (taken old.now.trees new.now.trees _ made.1))
  where
    taken : (db next : Trees) (n : ℕ) → Taken office_schema entry_table db next id n → Takes changed.Rows db next id n
    taken db next n it = record { taken = it.taken; rest = with_rows db next _ it.others refl }

abbrev entry_values : ℕ → List ℕ → ℕ → ℕ → ℕ → Row
entry_values arch name sender number place = Null ∷ Int (pos arch) ∷ Text name ∷ Int (pos sender) ∷ Int (pos number) ∷ Int (pos place) ∷ []

abbrev entry_row : List Row → ℕ → List ℕ → ℕ → ℕ → ℕ → Row
entry_row rows arch name sender number place = with_rowid Chosen rows (cast_row entry_table (entry_values arch name sender number place))

entry_row_says : (rows : List Row) (arch : ℕ) (name : List ℕ) (sender number place : ℕ) → Fits32 arch → Fits32 sender → Fits32 number → Fits32 place → entry_in (entry_row rows arch name sender number place) ≡ Some ((arch, name), ((sender, number), place))
entry_row_says rows arch name sender number place w x y z =
    entry_says (entry_row rows arch name sender number place) (next_rowid rows) arch name sender number place
    (rw cast_null refl) (rw cast_null (cast_int (pos arch))) (rw cast_null refl) (rw cast_null (cast_int (pos sender))) (rw cast_null (cast_int (pos number))) (rw cast_null (cast_int (pos place))) w x y z

added_row : (arch : ℕ) (name : List ℕ) (sender number place : ℕ) → FitsRow arch sender number place → (db next : Trees) → Inserted office_schema entry_table db next (entry_row (db 6) arch name sender number place) → Adds changed.Rows entry_in db next ((arch, name), ((sender, number), place))
added_row arch name sender number place fits db next it = record {
  row = entry_row (db 6) arch name sender number place;
  says = entry_row_says (db 6) arch name sender number place fits.0 fits.1 fits.2 fits.3;
  free = it.free;
  put = with_rows db next _ it.others it.rows;
}

pub adds_row : (arch : ℕ) (name : List ℕ) (sender number place : ℕ) → Fits32 arch → Fits32 sender → Fits32 number → Fits32 place → (old new : State) (count : ℕ) → old.now.schema ≡ office_schema
    → Executes add_row_text (Int (pos arch) ∷ Text name ∷ Int (pos sender) ∷ Int (pos number) ∷ Int (pos place) ∷ []) old new (Ok count)
    → (new.now.schema ≡ office_schema) × Adds changed.Rows entry_in old.now.trees new.now.trees ((arch, name), ((sender, number), place))
adds_row arch name sender number place w x y z old new count has h =
    let params = Int (pos arch) ∷ Text name ∷ Int (pos sender) ∷ Int (pos number) ∷ Int (pos place) ∷ [] in
    let command = Insert 4 (Values entry_terms 6) in
    let text = statement_of add_row_text (understood office_schema add_row_text) in
    let went_on : Writes old new None command text params count = runs_as add_row_text params old new office_schema has command add_row_is.0 add_row_is.1 count h in
    let done = subst (λ s. Does old.step_limit (mode_of old) params (record old.now { schema = s }) text None command (Ok (went_on.tally, new.now))) has went_on.changed in
    let made = inserts_one office_schema 4 entry_table old.step_limit (mode_of old) params text old.now.trees entry_terms 6 (entry_values arch name sender number place) went_on.tally new.now refl refl refl done in
    (made.0, added_row arch name sender number place (w, x, y, z) old.now.trees new.now.trees made.1)

abbrev eight_entry_terms : List Term
eight_entry_terms = lit Null ∷ col 0 0 ∷ col 0 1 ∷ col 0 2 ∷ col 0 3 ∷ col 0 4 ∷ lit Null ∷ col 0 5 ∷ col 0 6 ∷ col 0 7 ∷ col 0 8 ∷ col 0 9 ∷ lit Null ∷ col 0 10 ∷ col 0 11 ∷ col 0 12 ∷ col 0 13 ∷ col 0 14 ∷ lit Null ∷ col 0 15 ∷ col 0 16 ∷ col 0 17 ∷ col 0 18 ∷ col 0 19 ∷ lit Null ∷ col 0 20 ∷ col 0 21 ∷ col 0 22 ∷ col 0 23 ∷ col 0 24 ∷ lit Null ∷ col 0 25 ∷ col 0 26 ∷ col 0 27 ∷ col 0 28 ∷ col 0 29 ∷ lit Null ∷ col 0 30 ∷ col 0 31 ∷ col 0 32 ∷ col 0 33 ∷ col 0 34 ∷ lit Null ∷ col 0 35 ∷ col 0 36 ∷ col 0 37 ∷ col 0 38 ∷ col 0 39 ∷ []

add_eight_rows_is : (command_of (understood office_schema add_eight_rows_text) ≡ Insert 4 (Values eight_entry_terms 6)) × IsPlain (understood office_schema add_eight_rows_text)
unfolding understood everything
add_eight_rows_is = (refl, (refl, refl))

abbrev parameters_in : RowIn → Row
parameters_in r = row_parameters r.arch r.binary.name r.sender r.number r.place

abbrev FitAll : List RowIn → Type 0
FitAll = AllByRecursion (λ r. FitsRow r.arch r.sender r.number r.place)

abbrev values_in : RowIn → Row
values_in r = entry_values r.arch r.binary.name r.sender r.number r.place

each_row : (db next : Trees) (rows : List RowIn) → FitAll rows → InsertedEach office_schema entry_table db next (map values_in rows) → AddsAll changed.Rows entry_in db next (map row_entry rows)
each_row db next [] fits same = same
each_row db next (r ∷ rows) fits it = (it.0, added_row r.arch r.binary.name r.sender r.number r.place fits.0 db it.0 it.1, each_row it.0 next rows fits.1 it.2)

pub adds_eight_rows : (old new : State) (count : ℕ) → old.now.schema ≡ office_schema → (rows : List RowIn) → length rows ≡ 8 → FitAll rows → Executes add_eight_rows_text (flat_map parameters_in rows) old new (Ok count)
    → (new.now.schema ≡ office_schema) × AddsAll changed.Rows entry_in old.now.trees new.now.trees (map row_entry rows)
adds_eight_rows old new count has = of_eight (λ rows. FitAll rows → Executes add_eight_rows_text (flat_map parameters_in rows) old new (Ok count) → (new.now.schema ≡ office_schema) × AddsAll changed.Rows entry_in old.now.trees new.now.trees (map row_entry rows)) each
  where
    each : (a b c e f g i j : RowIn) → FitAll (a ∷ b ∷ c ∷ e ∷ f ∷ g ∷ i ∷ j ∷ []) → Executes add_eight_rows_text (flat_map parameters_in (a ∷ b ∷ c ∷ e ∷ f ∷ g ∷ i ∷ j ∷ [])) old new (Ok count)
        → (new.now.schema ≡ office_schema) × AddsAll changed.Rows entry_in old.now.trees new.now.trees (map row_entry (a ∷ b ∷ c ∷ e ∷ f ∷ g ∷ i ∷ j ∷ []))
    each a b c e f g i j fits h =
        let params = flat_map parameters_in (a ∷ b ∷ c ∷ e ∷ f ∷ g ∷ i ∷ j ∷ []) in
        let command = Insert 4 (Values eight_entry_terms 6) in
        let text = statement_of add_eight_rows_text (understood office_schema add_eight_rows_text) in
        let went_on : Writes old new None command text params count = runs_as add_eight_rows_text params old new office_schema has command add_eight_rows_is.0 add_eight_rows_is.1 count h in
        let done = subst (λ s. Does old.step_limit (mode_of old) params (record old.now { schema = s }) text None command (Ok (went_on.tally, new.now))) has went_on.changed in
        let made = inserts_each office_schema 4 entry_table old.step_limit (mode_of old) params text old.now.trees eight_entry_terms 6 (values_in a) (map values_in (b ∷ c ∷ e ∷ f ∷ g ∷ i ∷ j ∷ [])) went_on.tally new.now refl refl refl done in
        (made.0, each_row old.now.trees new.now.trees (a ∷ b ∷ c ∷ e ∷ f ∷ g ∷ i ∷ j ∷ []) fits made.1)
