-- What the steps of a finished run make of the tables.
use Rattle.std.proofs.Common.{◌≡◌, inl, inr, ℕ, pos, List, [], ◌∷◌, Bool, true, false, cond, filter_map, length, Some, None, Option, Ok, IsSome, refl, sym, ap, subst, ◌∙◌, arith}
use Rattle.std.proofs.lemmas.Bool.{or_parts, true≢false}
use Rattle.std.proofs.lemmas.Cmp.{nat_cmp_total, tied_itself}
use Rattle.std.specs.List.{cons_option}
use Rattle.std.specs.Ordering.{nat_cmp, eq_by_cmp, is_eq}
use Rattle.std.specs.FinMap.{find, get, nat_cmp-IsAntisymmetric, get-from_entries}
use Rattle.sqlite.specs.declared.types.Value.TheVariants.{Null, Int, Text}
use Rattle.sqlite.specs.Order.{Row, column, value_cmp}
use Rattle.sqlite.specs.Tree.{Trees, rowid, put_row}
use Rattle.sqlite.specs.Table.{Table}
use Rattle.sqlite.specs.Term.{Term, lit, col}
use Rattle.sqlite.specs.Cast.{cast_row}
use Rattle.sqlite.specs.Rowids.TheVariants.{Chosen}
use Rattle.sqlite.specs.Edit.{with_rowid, is_taken}
use Rattle.sqlite.specs.Source.TheVariants.{Values}
use Rattle.sqlite.specs.Command.TheVariants.{Insert, Delete}
use Rattle.sqlite.specs.Does.{Does}
use Rattle.sqlite.specs.Listing.{understood}
use Rattle.sqlite.specs.State.{State, Executes, Writes, mode_of}
use Rattle.sqlite.proofs.Callers.{IsPlain, command_of, runs_as, statement_of}
use Rattle.sqlite_rules.specs.Lists.{Has}
use Rattle.sqlite_tied.specs.Compute.{everything}
use Rattle.sqlite_value.proofs.OrderLemmas.{value_cmp_total}
use Rattle.office_store_keeper.specs.declared.values.Reports.{Reports}
use Rattle.office_store_testing_tables.specs.declared.said.Said.{Said}
use Rattle.office_store_testing_tables.specs.Layout.{office_schema, run, office}
use Rattle.office_store_testing_tables.specs.steps.Texts.{add_run_text, clear_office_text, add_office_text}
use Rattle.office_store_testing_tables.specs.Tables.{number_in, text_in, run_in, run_map, office_by, office_in, said_in, IsWhole}
use Rattle.office_store_testing_tables.specs.steps.TableSteps.{Rows, SaysAlone, AddsRun, Silences, SaysMore, RecordsRun}
use Rattle.office_store_testing_tables.proofs.Compiled.{plain_query}
use Rattle.office_store_testing_tables.proofs.WriteLemmas.{Inserted, inserts_one, cast_int}
use Rattle.office_store_testing_tables.proofs.DeleteLemmas.{Deleted, deletes_some, nothing_left}
use Rattle.office_store_testing_tables.proofs.KeyedFacts.{tied, map_put, put_found}
use Rattle.office_store_testing_tables.proofs.LetterFacts.{number_is}
use Rattle.office_store_testing_tables.proofs.KeepLemmas.{with_office, with_runs}
use Rattle.office_store_tables.proofs.RunLemmas.{run_says, run_number, office_says}
use Rattle.office_store_testing_tables.proofs.Whole.{whole_put}

-- ---- reports

add_run_is : (command_of (understood office_schema add_run_text) ≡ Insert 2 (Values (col 0 0 ∷ lit Null ∷ col 0 1 ∷ col 0 2 ∷ []) 4)) × IsPlain (understood office_schema add_run_text)
unfolding understood everything
add_run_is = (refl, (refl, refl))

abbrev run_terms : List Term
run_terms = col 0 0 ∷ lit Null ∷ col 0 1 ∷ col 0 2 ∷ []

-- the table of runs, where it stands in the schema
abbrev run_table : Table
run_table = record run { tree = 3 }

abbrev run_source : ℕ → Reports → Row
run_source number reports = Int (pos number) ∷ Null ∷ Text reports.excuses ∷ Text reports.updates ∷ []

abbrev run_row : List Row → ℕ → Reports → Row
run_row rows number reports = with_rowid Chosen rows (cast_row run_table (run_source number reports))

row_says : (rows : List Row) (number : ℕ) (reports : Reports) → run_in (run_row rows number reports) ≡ Some (number, reports)
row_says rows number reports = run_says (run_row rows number reports) number reports (rw (cast_int (pos number)) refl) (rw (cast_int (pos number)) refl) (rw (cast_int (pos number)) refl)

adds : (db next : Trees) (number : ℕ) (reports : Reports) → Inserted office_schema run_table db next (run_row (db 3) number reports) → AddsRun db next number reports
adds db next number reports it = record {
  row = run_row (db 3) number reports;
  says = row_says (db 3) number reports;
  free = it.free;
  put = with_runs db next _ it.others it.rows;
}

pub adds_run : (number : ℕ) (reports : Reports) (old new : State) (count : ℕ) → old.now.schema ≡ office_schema → Executes add_run_text (Int (pos number) ∷ Text reports.excuses ∷ Text reports.updates ∷ []) old new (Ok count)
    → (new.now.schema ≡ office_schema) × AddsRun old.now.trees new.now.trees number reports
adds_run number reports old new count has h =
    let params = Int (pos number) ∷ Text reports.excuses ∷ Text reports.updates ∷ [] in
    let command = Insert 2 (Values run_terms 4) in
    let text = statement_of add_run_text (understood office_schema add_run_text) in
    let went_on : Writes old new None command text params count = runs_as add_run_text params old new office_schema has command add_run_is.0 add_run_is.1 count h in
    let done = subst (λ s. Does old.step_limit (mode_of old) params (record old.now { schema = s }) text None command (Ok (went_on.tally, new.now))) has went_on.changed in
    let made = inserts_one office_schema 2 run_table old.step_limit (mode_of old) params text old.now.trees run_terms 4 (run_source number reports) went_on.tally new.now refl refl refl done in
    (made.0, adds old.now.trees new.now.trees number reports made.1)

-- ---- what the office says of itself

clear_is : (command_of (understood office_schema clear_office_text) ≡ Delete 0 (record { lets = []; body = plain_query 0 [] (col 1 0 ∷ []) })) × IsPlain (understood office_schema clear_office_text)
unfolding understood everything
clear_is = (refl, (refl, refl))

abbrev say_terms : List Term
say_terms = lit (Int (pos 1)) ∷ lit Null ∷ col 0 0 ∷ col 0 1 ∷ col 0 2 ∷ []

say_is : (command_of (understood office_schema add_office_text) ≡ Insert 0 (Values say_terms 5)) × IsPlain (understood office_schema add_office_text)
unfolding understood everything
say_is = (refl, (refl, refl))

-- where no row says anything, nothing is said
pub none_said : {E : Type 0} (read : Row → Option E) (rows : List Row) → ((row : Row) (e : E) → Has rows row → read row ≡ Some e → ⊥) → filter_map read rows ≡ []
none_said read [] none = refl
none_said {E} read (row ∷ rows) none = go (read row) refl (none_said read rows (λ r e there. none r e (inr there)))
  where
    go : (o : Option E) → read row ≡ o → filter_map read rows ≡ [] → cons_option o (filter_map read rows) ≡ []
    go None is h = h
    go (Some e) is h = absurd (none row e (inl refl) is)

id_by : (id schema : Option ℕ) (setup : Option (List ℕ)) (finished : Option ℕ) (k : ℕ) (said : Said) → office_by id schema setup finished ≡ Some (k, said) → id ≡ Some k
id_by None schema setup finished k said h = absurd (let e = h in cc)
id_by (Some id) None setup finished k said h = absurd (let e = h in cc)
id_by (Some id) (Some schema) None finished k said h = absurd (let e = h in cc)
id_by (Some id) (Some schema) (Some setup) None k said h = absurd (let e = h in cc)
id_by (Some id) (Some schema) (Some setup) (Some finished) k said h =
    let same : ◌≡◌ {A = ℕ × Said} (id, record { schema = schema; setup = setup; finished = finished }) (k, said) = cc in
    ap (λ (x : ℕ × Said). Some x.0) same

office_id : (row : Row) (e : ℕ × Said) → office_in row ≡ Some e → rowid row ≡ Int (pos e.0)
unfolding office_in
office_id row e h = number_is _ _ (id_by (number_in (column row 0)) (number_in (column row 2)) (text_in (column row 3)) (number_in (column row 4)) e.0 e.1 h)

alone_reads : (o : Option (ℕ × Said)) → IsSome (find nat_cmp 1 (cons_option o [])) → (e : ℕ × Said) × (o ≡ Some e)
alone_reads None some = absurd (let e = some in cc)
alone_reads (Some e) some = (e, refl)

-- the only row reads
reads_alone : (rows : List Row) → SaysAlone rows → (row : Row) → Has rows row → (e : ℕ × Said) × (office_in row ≡ Some e)
reads_alone [] alone row there = absurd there
reads_alone (r ∷ []) alone row (inl same) = let s = alone_reads (office_in r) alone.1 in (s.0, ap office_in same ∙ s.1)
reads_alone (r ∷ []) alone row (inr there) = absurd there
reads_alone (r ∷ more ∷ rows) alone row there = absurd (omega (arith, alone.0))

silenced : (db next : Trees) → Deleted office_schema office [] [] db next → Silences db next
silenced db next it =
    let none : filter_map office_in (next 0) ≡ [] = none_said office_in (next 0) (λ row e there says. it.gone row (pos e.0) (it.had row there) (office_id row e says) refl there) in
    record {
      none = none;
      left = λ alone. nothing_left office_in (db 0) (next 0) it.had (reads_alone (db 0) alone) none;
      rest = with_office db next _ it.others refl;
    }

pub silences : (old new : State) (count : ℕ) → old.now.schema ≡ office_schema → Executes clear_office_text [] old new (Ok count) → (new.now.schema ≡ office_schema) × Silences old.now.trees new.now.trees
silences old new count has h =
    let command = Delete 0 (record { lets = []; body = plain_query 0 [] (col 1 0 ∷ []) }) in
    let text = statement_of clear_office_text (understood office_schema clear_office_text) in
    let went_on : Writes old new None command text [] count = runs_as clear_office_text [] old new office_schema has command clear_is.0 clear_is.1 count h in
    let done = subst (λ s. Does old.step_limit (mode_of old) [] (record old.now { schema = s }) text None command (Ok (went_on.tally, new.now))) has went_on.changed in
    let made = deletes_some office_schema 0 office old.step_limit (mode_of old) [] text old.now.trees [] went_on.tally new.now refl refl refl (λ olds. refl) done in
    (made.0, silenced old.now.trees new.now.trees made.1)

abbrev say_source : Said → Row
say_source said = Int (pos 1) ∷ Null ∷ Int (pos said.schema) ∷ Text said.setup ∷ Int (pos said.finished) ∷ []

abbrev say_row : List Row → Said → Row
say_row rows said = with_rowid Chosen rows (cast_row office (say_source said))

says_so : (rows : List Row) (said : Said) → office_in (say_row rows said) ≡ Some (1, said)
says_so rows said = office_says (say_row rows said) 1 said (rw (cast_int (pos 1)) refl) (rw (cast_int (pos 1)) (cast_int (pos said.schema))) (rw (cast_int (pos 1)) refl) (rw (cast_int (pos 1)) (cast_int (pos said.finished)))

spoken : (db next : Trees) (said : Said) → Inserted office_schema office db next (say_row (db 0) said) → SaysMore db next said
spoken db next said it = record {
  row = say_row (db 0) said;
  says = says_so (db 0) said;
  free = it.free;
  put = with_office db next _ it.others it.rows;
}

pub says : (said : Said) (old new : State) (count : ℕ) → old.now.schema ≡ office_schema → Executes add_office_text (Int (pos said.schema) ∷ Text said.setup ∷ Int (pos said.finished) ∷ []) old new (Ok count)
    → (new.now.schema ≡ office_schema) × SaysMore old.now.trees new.now.trees said
says said old new count has h =
    let params = Int (pos said.schema) ∷ Text said.setup ∷ Int (pos said.finished) ∷ [] in
    let command = Insert 0 (Values say_terms 5) in
    let text = statement_of add_office_text (understood office_schema add_office_text) in
    let went_on : Writes old new None command text params count = runs_as add_office_text params old new office_schema has command say_is.0 say_is.1 count h in
    let done = subst (λ s. Does old.step_limit (mode_of old) params (record old.now { schema = s }) text None command (Ok (went_on.tally, new.now))) has went_on.changed in
    let made = inserts_one office_schema 0 office old.step_limit (mode_of old) params text old.now.trees say_terms 5 (say_source said) went_on.tally new.now refl refl refl done in
    (made.0, spoken old.now.trees new.now.trees said made.1)

-- ---- the three steps together

-- where a row's rowid is its key, a row that has its own rowid has its own key
own_key : (k : ℕ) (reports : Reports) (row : Row) (rows : List Row) → run_in row ≡ Some (k, reports) → is_taken rows row ≡ false → find nat_cmp k (filter_map run_in rows) ≡ None
own_key k reports row [] is fresh = refl
own_key k reports row (r ∷ rows) is fresh =
    let parts = or_parts _ _ fresh in
    go (run_in r) refl parts.0 (own_key k reports row rows is parts.1)
  where
    same : (n : ℕ) (other : Reports) → run_in r ≡ Some (n, other) → eq_by_cmp nat_cmp k n ≡ true → is_eq (value_cmp (rowid r) (rowid row)) ≡ true
    same n other says tie =
        let key : k ≡ n = nat_cmp-IsAntisymmetric k n (tied (nat_cmp k n) tie) in
        rw (run_number r n other says, run_number row k reports is, key) (ap is_eq (tied_itself value_cmp_total (Int (pos n))))

    go : (o : Option (ℕ × Reports)) → run_in r ≡ o → is_eq (value_cmp (rowid r) (rowid row)) ≡ false → find nat_cmp k (filter_map run_in rows) ≡ None → find nat_cmp k (cons_option o (filter_map run_in rows)) ≡ None
    go None says other h = h
    go (Some e) says other h = choose (eq_by_cmp nat_cmp k e.0) refl
      where
        choose : (b : Bool) → eq_by_cmp nat_cmp k e.0 ≡ b → cond b (Some e.1) (find nat_cmp k (filter_map run_in rows)) ≡ None
        choose true tie = absurd (true≢false (sym (same e.0 e.1 says tie) ∙ other))
        choose false tie = h

pub records : (a b c d : Trees) (number : ℕ) (reports : Reports) (said : Said) → AddsRun a b number reports → Silences b c → SaysMore c d said → RecordsRun a d number reports said
records a b c d number reports said first second third =
    let free = own_key number reports first.row (a 3) first.says first.free in
    let new : get (run_map (a 3)) number ≡ None = get-from_entries nat_cmp_total (filter_map run_in (a 3)) number ∙ free in
    let runs : d 3 ≡ put_row first.row (a 3) = ap (λ (r : Rows). r.runs) third.put ∙ ap (λ (r : Rows). r.runs) second.rest ∙ ap (λ (r : Rows). r.runs) first.put in
    let office : d 0 ≡ put_row third.row (c 0) = ap (λ (r : Rows). r.office) third.put in
    let said_before : b 0 ≡ a 0 = ap (λ (r : Rows). r.office) first.put in
    record {
      once = λ alone. ap length (office ∙ ap (put_row third.row) (second.left (subst SaysAlone (sym said_before) alone)));
      whole = λ whole. subst (λ rows. IsWhole (run_map rows) rows) (sym runs) (whole_put nat_cmp_total nat_cmp-IsAntisymmetric run_in first.row number reports (a 3) first.says first.free new whole);
      reported = ap run_map runs ∙ map_put nat_cmp_total nat_cmp-IsAntisymmetric run_in first.row number reports (a 3) first.says first.free new;
      new = new;
      says = ap said_in office ∙ put_found nat_cmp_total nat_cmp-IsAntisymmetric office_in third.row 1 said 1 (c 0) third.says third.free (ap (find nat_cmp 1) second.none);
      mail = ap (λ (r : Rows). r.mail) third.put ∙ ap (λ (r : Rows). r.mail) second.rest ∙ ap (λ (r : Rows). r.mail) first.put;
      sources = ap (λ (r : Rows). r.sources) third.put ∙ ap (λ (r : Rows). r.sources) second.rest ∙ ap (λ (r : Rows). r.sources) first.put;
      rows = ap (λ (r : Rows). r.rows) third.put ∙ ap (λ (r : Rows). r.rows) second.rest ∙ ap (λ (r : Rows). r.rows) first.put;
      facts = ap (λ (r : Rows). r.facts) third.put ∙ ap (λ (r : Rows). r.facts) second.rest ∙ ap (λ (r : Rows). r.facts) first.put;
      delays = ap (λ (r : Rows). r.delays) third.put ∙ ap (λ (r : Rows). r.delays) second.rest ∙ ap (λ (r : Rows). r.delays) first.put;
    }
