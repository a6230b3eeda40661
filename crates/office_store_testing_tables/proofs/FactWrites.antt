-- What the statements on facts make of their tables.
use Rattle.std.proofs.Common.{◌≡◌, ℕ, ℤ, pos, List, [], ◌∷◌, length, map, None, Ok, refl, sym, subst}
use Rattle.std.specs.List.{flat_map, AllByRecursion}
use Rattle.sqlite.specs.declared.types.Value.TheVariants.{Null, Int}
use Rattle.sqlite.specs.Order.{Row}
use Rattle.sqlite.specs.Tree.{Trees}
use Rattle.sqlite.specs.Table.{Table}
use Rattle.sqlite.specs.Term.{Term, lit, col}
use Rattle.sqlite.specs.Cast.{cast_row}
use Rattle.sqlite.specs.Rowids.TheVariants.{Chosen}
use Rattle.sqlite.specs.Edit.{with_rowid}
use Rattle.sqlite_rules.specs.Edit.{next_rowid}
use Rattle.sqlite.specs.Source.TheVariants.{Values}
use Rattle.sqlite.specs.Command.TheVariants.{Insert, Delete}
use Rattle.sqlite.specs.Does.{Does}
use Rattle.sqlite.specs.Listing.{understood}
use Rattle.sqlite.specs.State.{State, Executes, Writes, mode_of}
use Rattle.sqlite.proofs.Callers.{IsPlain, command_of, runs_as, statement_of}
use Rattle.sqlite_tied.specs.Compute.{everything}
use Rattle.testing_rules_model.specs.declared.fact_row.FactRow.{FactRow}
use Rattle.testing_rules_model.specs.FactRows.{number_of}
use Rattle.office_store_testing_tables.specs.Layout.{office_schema, fact, fact_delays}
use Rattle.office_store_testing_tables.specs.declared.rowids.ChangedTable.{ChangedTable}
use Rattle.office_store_testing_tables.specs.declared.rowids.ChangedTable.TheVariants as changed
use Rattle.office_store_testing_tables.specs.steps.ChangedTables.{take_text, Takes}
use Rattle.office_store_testing_tables.specs.steps.Texts.{add_fact_text, add_eight_facts_text, add_delays_text, take_fact_text, take_delays_text}
use Rattle.office_store_testing_tables.specs.FactTables.{fact_of, fact_in}
use Rattle.office_store_testing_tables.specs.steps.FactSteps.{fact_parameters, FitsFact, AddsFact, AddsFacts, AddsDelays}
use Rattle.office_store_testing_tables.proofs.Compiled.{plain_query}
use Rattle.office_store_testing_tables.proofs.WriteLemmas.{Inserted, InsertedEach, inserts_one, inserts_each, cast_null, cast_int}
use Rattle.office_store_testing_tables.proofs.Eights.{of_eight}
use Rattle.office_store_testing_tables.proofs.KeepLemmas.{with_facts, with_delays}
use Rattle.office_store_testing_tables.proofs.EntrySays.{Fits32}
use Rattle.office_store_testing_tables.proofs.FactReads.{fact_says, delays_say}
use Rattle.office_store_testing_tables.proofs.FactShows.{fact_params}
use Rattle.office_store_testing_tables.proofs.EntryWrites.{takes_source, takes_row}
use Rattle.office_store_testing_tables.proofs.TakeLemmas.{Taken, id_terms, takes_by_id}

-- the tables, where they stand in the schema
abbrev fact_table : Table
fact_table = record fact { tree = 8 }

abbrev delays_table : Table
delays_table = record fact_delays { tree = 10 }

-- ---- facts

abbrev fact_terms : List Term
fact_terms = lit Null ∷ col 0 0 ∷ col 0 1 ∷ col 0 2 ∷ col 0 3 ∷ []

add_fact_is : (command_of (understood office_schema add_fact_text) ≡ Insert 5 (Values fact_terms 5)) × IsPlain (understood office_schema add_fact_text)
unfolding understood everything
add_fact_is = (refl, (refl, refl))

abbrev fact_values : FactRow → Row
fact_values row = Null ∷ Int (pos (number_of row.kind)) ∷ Int (pos row.sender) ∷ Int (pos row.number) ∷ Int (pos row.place) ∷ []

abbrev new_fact : List Row → FactRow → Row
new_fact rows row = with_rowid Chosen rows (cast_row fact_table (fact_values row))

new_fact_says : (rows : List Row) (row : FactRow) → Fits32 row.sender → Fits32 row.number → Fits32 row.place → fact_in (new_fact rows row) ≡ fact_of row
new_fact_says rows row x y z =
    fact_says (new_fact rows row) (next_rowid rows) row
    (rw cast_null refl) (rw cast_null (cast_int (pos (number_of row.kind)))) (rw cast_null (cast_int (pos row.sender))) (rw cast_null (cast_int (pos row.number))) (rw cast_null (cast_int (pos row.place))) x y z

added_fact : (row : FactRow) → FitsFact row → (db next : Trees) → Inserted office_schema fact_table db next (new_fact (db 8) row) → AddsFact db next row
added_fact row fits db next it = record {
  row = new_fact (db 8) row;
  says = new_fact_says (db 8) row fits.0 fits.1 fits.2;
  free = it.free;
  put = with_facts db next _ it.others it.rows;
}

pub adds_fact : (row : FactRow) → Fits32 row.sender → Fits32 row.number → Fits32 row.place → (old new : State) (count : ℕ) → old.now.schema ≡ office_schema → Executes add_fact_text (fact_params row) old new (Ok count)
    → (new.now.schema ≡ office_schema) × AddsFact old.now.trees new.now.trees row
adds_fact row x y z old new count has h =
    let command = Insert 5 (Values fact_terms 5) in
    let text = statement_of add_fact_text (understood office_schema add_fact_text) in
    let went_on : Writes old new None command text (fact_params row) count = runs_as add_fact_text (fact_params row) old new office_schema has command add_fact_is.0 add_fact_is.1 count h in
    let done = subst (λ s. Does old.step_limit (mode_of old) (fact_params row) (record old.now { schema = s }) text None command (Ok (went_on.tally, new.now))) has went_on.changed in
    let made = inserts_one office_schema 5 fact_table old.step_limit (mode_of old) (fact_params row) text old.now.trees fact_terms 5 (fact_values row) went_on.tally new.now refl refl refl done in
    (made.0, added_fact row (x, y, z) old.now.trees new.now.trees made.1)

abbrev eight_fact_terms : List Term
eight_fact_terms = lit Null ∷ col 0 0 ∷ col 0 1 ∷ col 0 2 ∷ col 0 3 ∷ lit Null ∷ col 0 4 ∷ col 0 5 ∷ col 0 6 ∷ col 0 7 ∷ lit Null ∷ col 0 8 ∷ col 0 9 ∷ col 0 10 ∷ col 0 11 ∷ lit Null ∷ col 0 12 ∷ col 0 13 ∷ col 0 14 ∷ col 0 15 ∷ lit Null ∷ col 0 16 ∷ col 0 17 ∷ col 0 18 ∷ col 0 19 ∷ lit Null ∷ col 0 20 ∷ col 0 21 ∷ col 0 22 ∷ col 0 23 ∷ lit Null ∷ col 0 24 ∷ col 0 25 ∷ col 0 26 ∷ col 0 27 ∷ lit Null ∷ col 0 28 ∷ col 0 29 ∷ col 0 30 ∷ col 0 31 ∷ []

add_eight_facts_is : (command_of (understood office_schema add_eight_facts_text) ≡ Insert 5 (Values eight_fact_terms 5)) × IsPlain (understood office_schema add_eight_facts_text)
unfolding understood everything
add_eight_facts_is = (refl, (refl, refl))

each_fact : (db next : Trees) (facts : List FactRow) → AllByRecursion FitsFact facts → InsertedEach office_schema fact_table db next (map fact_values facts) → AddsFacts db next facts
each_fact db next [] fits same = same
each_fact db next (fact ∷ facts) fits it = (it.0, added_fact fact fits.0 db it.0 it.1, each_fact it.0 next facts fits.1 it.2)

pub adds_eight_facts : (old new : State) (count : ℕ) → old.now.schema ≡ office_schema → (facts : List FactRow) → length facts ≡ 8 → AllByRecursion FitsFact facts → Executes add_eight_facts_text (flat_map fact_parameters facts) old new (Ok count)
    → (new.now.schema ≡ office_schema) × AddsFacts old.now.trees new.now.trees facts
adds_eight_facts old new count has = of_eight (λ facts. AllByRecursion FitsFact facts → Executes add_eight_facts_text (flat_map fact_parameters facts) old new (Ok count) → (new.now.schema ≡ office_schema) × AddsFacts old.now.trees new.now.trees facts) each
  where
    each : (a b c e f g i j : FactRow) → AllByRecursion FitsFact (a ∷ b ∷ c ∷ e ∷ f ∷ g ∷ i ∷ j ∷ []) → Executes add_eight_facts_text (flat_map fact_parameters (a ∷ b ∷ c ∷ e ∷ f ∷ g ∷ i ∷ j ∷ [])) old new (Ok count)
        → (new.now.schema ≡ office_schema) × AddsFacts old.now.trees new.now.trees (a ∷ b ∷ c ∷ e ∷ f ∷ g ∷ i ∷ j ∷ [])
    each a b c e f g i j fits h =
        let params = flat_map fact_parameters (a ∷ b ∷ c ∷ e ∷ f ∷ g ∷ i ∷ j ∷ []) in
        let command = Insert 5 (Values eight_fact_terms 5) in
        let text = statement_of add_eight_facts_text (understood office_schema add_eight_facts_text) in
        let went_on : Writes old new None command text params count = runs_as add_eight_facts_text params old new office_schema has command add_eight_facts_is.0 add_eight_facts_is.1 count h in
        let done = subst (λ s. Does old.step_limit (mode_of old) params (record old.now { schema = s }) text None command (Ok (went_on.tally, new.now))) has went_on.changed in
        let made = inserts_each office_schema 5 fact_table old.step_limit (mode_of old) params text old.now.trees eight_fact_terms 5 (fact_values a) (map fact_values (b ∷ c ∷ e ∷ f ∷ g ∷ i ∷ j ∷ [])) went_on.tally new.now refl refl refl done in
        (made.0, each_fact old.now.trees new.now.trees (a ∷ b ∷ c ∷ e ∷ f ∷ g ∷ i ∷ j ∷ []) fits made.1)

take_fact_is : (command_of (understood office_schema take_fact_text) ≡ Delete 5 (record { lets = []; body = plain_query 8 id_terms (col 1 0 ∷ []) })) × IsPlain (understood office_schema take_fact_text)
unfolding understood everything
take_fact_is = (refl, (refl, refl))

pub takes_fact : (id : ℤ) (old new : State) (count : ℕ) → old.now.schema ≡ office_schema → Executes take_fact_text (Int id ∷ []) old new (Ok count) → (new.now.schema ≡ office_schema) × Takes changed.Facts old.now.trees new.now.trees id count
takes_fact id old new count has h =
    let command = Delete 5 (record { lets = []; body = plain_query 8 id_terms (col 1 0 ∷ []) }) in
    let text = statement_of take_fact_text (understood office_schema take_fact_text) in
    let went_on : Writes old new None command text (Int id ∷ []) count = runs_as take_fact_text (Int id ∷ []) old new office_schema has command take_fact_is.0 take_fact_is.1 count h in
    let done = subst (λ s. Does old.step_limit (mode_of old) (Int id ∷ []) (record old.now { schema = s }) text None command (Ok (went_on.tally, new.now))) has went_on.changed in
    let made = takes_by_id office_schema 5 fact_table old.step_limit (mode_of old) id text old.now.trees went_on.tally new.now refl refl refl (λ olds. refl) done in
    (made.0, subst (Takes changed.Facts old.now.trees new.now.trees id) (sym went_on.counted) (taken old.now.trees new.now.trees _ made.1))
  where
    taken : (db next : Trees) (n : ℕ) → Taken office_schema fact_table db next id n → Takes changed.Facts db next id n
    taken db next n it = record { taken = it.taken; rest = with_facts db next _ it.others refl }

-- ---- the last delays

abbrev delays_terms : List Term
delays_terms = lit (Int (pos 1)) ∷ lit Null ∷ col 0 0 ∷ []

add_delays_is : (command_of (understood office_schema add_delays_text) ≡ Insert 6 (Values delays_terms 3)) × IsPlain (understood office_schema add_delays_text)
unfolding understood everything
add_delays_is = (refl, (refl, refl))

abbrev delays_values : ℕ → Row
delays_values number = Int (pos 1) ∷ Null ∷ Int (pos number) ∷ []

abbrev new_delays : List Row → ℕ → Row
new_delays rows number = with_rowid Chosen rows (cast_row delays_table (delays_values number))

pub adds_delays : (number : ℕ) → Fits32 number → (old new : State) (count : ℕ) → old.now.schema ≡ office_schema → Executes add_delays_text (Int (pos number) ∷ []) old new (Ok count) → (new.now.schema ≡ office_schema) × AddsDelays old.now.trees new.now.trees number
adds_delays number fits old new count has h =
    let params = Int (pos number) ∷ [] in
    let command = Insert 6 (Values delays_terms 3) in
    let text = statement_of add_delays_text (understood office_schema add_delays_text) in
    let went_on : Writes old new None command text params count = runs_as add_delays_text params old new office_schema has command add_delays_is.0 add_delays_is.1 count h in
    let done = subst (λ s. Does old.step_limit (mode_of old) params (record old.now { schema = s }) text None command (Ok (went_on.tally, new.now))) has went_on.changed in
    let made = inserts_one office_schema 6 delays_table old.step_limit (mode_of old) params text old.now.trees delays_terms 3 (delays_values number) went_on.tally new.now refl refl refl done in
    (made.0, added old.now.trees new.now.trees made.1)
  where
    added : (db next : Trees) → Inserted office_schema delays_table db next (new_delays (db 10) number) → AddsDelays db next number
    added db next it = record {
      row = new_delays (db 10) number;
      id = rw (cast_int (pos 1)) refl;
      says = λ release. delays_say release (new_delays (db 10) number) number (rw (cast_int (pos 1)) refl) (rw (cast_int (pos 1)) (cast_int (pos number))) fits;
      free = it.free;
      put = with_delays db next _ it.others it.rows;
    }

take_delays_is : (command_of (understood office_schema take_delays_text) ≡ Delete 6 (record { lets = []; body = plain_query 10 id_terms (col 1 0 ∷ []) })) × IsPlain (understood office_schema take_delays_text)
unfolding understood everything
take_delays_is = (refl, (refl, refl))

pub takes_delays : (id : ℤ) (old new : State) (count : ℕ) → old.now.schema ≡ office_schema → Executes take_delays_text (Int id ∷ []) old new (Ok count) → (new.now.schema ≡ office_schema) × Takes changed.Delays old.now.trees new.now.trees id count
takes_delays id old new count has h =
    let command = Delete 6 (record { lets = []; body = plain_query 10 id_terms (col 1 0 ∷ []) }) in
    let text = statement_of take_delays_text (understood office_schema take_delays_text) in
    let went_on : Writes old new None command text (Int id ∷ []) count = runs_as take_delays_text (Int id ∷ []) old new office_schema has command take_delays_is.0 take_delays_is.1 count h in
    let done = subst (λ s. Does old.step_limit (mode_of old) (Int id ∷ []) (record old.now { schema = s }) text None command (Ok (went_on.tally, new.now))) has went_on.changed in
    let made = takes_by_id office_schema 6 delays_table old.step_limit (mode_of old) id text old.now.trees went_on.tally new.now refl refl refl (λ olds. refl) done in
    (made.0, subst (Takes changed.Delays old.now.trees new.now.trees id) (sym went_on.counted) (taken old.now.trees new.now.trees _ made.1))
  where
    taken : (db next : Trees) (n : ℕ) → Taken office_schema delays_table db next id n → Takes changed.Delays db next id n
    taken db next n it = record { taken = it.taken; rest = with_delays db next _ it.others refl }

-- ---- the tables that a finished run changes

pub takes_rows : (table : ChangedTable) (id : ℤ) (old new : State) (count : ℕ) → old.now.schema ≡ office_schema → Executes (take_text table) (Int id ∷ []) old new (Ok count) → (new.now.schema ≡ office_schema) × Takes table old.now.trees new.now.trees id count
takes_rows changed.Sources = takes_source
takes_rows changed.Rows = takes_row
takes_rows changed.Facts = takes_fact
takes_rows changed.Delays = takes_delays
