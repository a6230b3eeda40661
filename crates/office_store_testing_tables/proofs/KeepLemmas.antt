-- What INSERT makes of the mail.
use Rattle.std.proofs.Common.{◌≡◌, ◌≢◌, ℕ, pos, List, [], ◌∷◌, length, map, false, Some, None, Ok, Err, Result, OnOk, refl, sym, ap, subst, ◌∙◌, arith, nat_eq}
use Rattle.std.proofs.lemmas.Bool.Decides.{nat_tests}
use Rattle.std.specs.FinMap.{get, insert}
use Rattle.std.specs.List.{flat_map}
use Rattle.sqlite.specs.declared.types.Value.TheVariants.{Null, Int, Blob}
use Rattle.sqlite.specs.Order.{Row}
use Rattle.sqlite.specs.Tree.{Trees}
use Rattle.sqlite.specs.Term.{Term, lit, col}
use Rattle.sqlite.specs.Cast.{cast_row}
use Rattle.sqlite.specs.Rowids.TheVariants.{Chosen}
use Rattle.sqlite.specs.Edit.{with_rowid, IsNoIndex}
use Rattle.sqlite.specs.Source.TheVariants.{Values}
use Rattle.sqlite.specs.Command.TheVariants.{Insert}
use Rattle.sqlite.specs.Does.{Does}
use Rattle.sqlite.specs.Listing.{understood}
use Rattle.sqlite.specs.State.{State, Executes, Writes, mode_of}
use Rattle.sqlite.proofs.Callers.{runs_as, statement_of}
use Rattle.sqlite.specs.Table.{Table}
use Rattle.office_store_keeper.specs.declared.values.NewLetter.{NewLetter}
use Rattle.office_store_testing_tables.specs.Layout.{office_schema, mail}
use Rattle.office_store_testing_tables.specs.steps.Texts.{keep_text, keep_eight_text}
use Rattle.office_store_testing_tables.specs.Tables.{letter_in, kept_rows}
use Rattle.office_store_testing_tables.specs.steps.TableSteps.{Rows, rows_in, letter_parameters, AddsLetter, AddsLetters}
use Rattle.office_store_testing_tables.proofs.Compiled.{keep_is, keep_plain, keep_eight_terms, keep_eight_is}
use Rattle.office_store_testing_tables.proofs.WriteLemmas.{Inserted, InsertedEach, inserts_one, inserts_each, cast_null, cast_int}
use Rattle.office_store_testing_tables.proofs.Eights.{of_eight}
use Rattle.office_store_testing_tables.proofs.LetterFacts.{letter_of_parts, kept_put}

abbrev pub keep_terms : List Term
keep_terms = lit Null ∷ col 0 0 ∷ col 0 1 ∷ col 0 2 ∷ []

abbrev pub letter_source : ℕ → ℕ → List ℕ → Row
letter_source sender number text = Null ∷ Int (pos sender) ∷ Int (pos number) ∷ Blob text ∷ []

-- the table of mail, where it stands in the schema
abbrev pub mail_table : Table
mail_table = record mail { tree = 1 }

abbrev pub letter : List Row → ℕ → ℕ → List ℕ → Row
letter rows sender number text = with_rowid Chosen rows (cast_row mail_table (letter_source sender number text))

letter_says : (rows : List Row) (sender number : ℕ) (text : List ℕ) → letter_in (letter rows sender number text) ≡ Some ((sender, number), text)
letter_says rows sender number text = letter_of_parts (letter rows sender number text) sender number text (rw cast_null (cast_int (pos sender))) (rw cast_null (cast_int (pos number))) (rw cast_null refl)

pub apart : (a b : ℕ) → nat_eq a b ≡ false → a ≢ b
apart a b is e = grind (arith, nat_tests)

pub unindexed : (t : ℕ) → nat_eq 2 t ≡ false → nat_eq 5 t ≡ false → nat_eq 7 t ≡ false → nat_eq 9 t ≡ false → IsNoIndex office_schema t
unindexed t a b c d = (apart 2 t a, (apart 5 t b, (apart 7 t c, (apart 9 t d, tt))))

-- the rows of a database, table by table
pub seven : (db : Trees) (r : Rows) → db 0 ≡ r.office → db 1 ≡ r.mail → db 3 ≡ r.runs → db 4 ≡ r.sources → db 6 ≡ r.rows → db 8 ≡ r.facts → db 10 ≡ r.delays → rows_in db ≡ r
seven db r a b c d e f g = λ i. record { office = a i; mail = b i; runs = c i; sources = d i; rows = e i; facts = f i; delays = g i }

-- the tables but one stand, where all but its tree do
pub others_stand : (db next : Trees) (at : ℕ) → ((t : ℕ) → t ≢ at → IsNoIndex office_schema t → next t ≡ db t) → (t : ℕ) → nat_eq t at ≡ false → nat_eq 2 t ≡ false → nat_eq 5 t ≡ false → nat_eq 7 t ≡ false → nat_eq 9 t ≡ false → next t ≡ db t
others_stand db next at others t other a b c d = others t (apart t at other) (unindexed t a b c d)

-- one table has these rows, and the others stand
pub with_office : (db next : Trees) (rows : List Row) → ((t : ℕ) → t ≢ 0 → IsNoIndex office_schema t → next t ≡ db t) → next 0 ≡ rows → rows_in next ≡ record (rows_in db) { office = rows }
with_office db next rows others is = let s = others_stand db next 0 others in seven next (record (rows_in db) { office = rows }) is (s 1 refl refl refl refl refl) (s 3 refl refl refl refl refl) (s 4 refl refl refl refl refl) (s 6 refl refl refl refl refl) (s 8 refl refl refl refl refl) (s 10 refl refl refl refl refl)

pub with_mail : (db next : Trees) (rows : List Row) → ((t : ℕ) → t ≢ 1 → IsNoIndex office_schema t → next t ≡ db t) → next 1 ≡ rows → rows_in next ≡ record (rows_in db) { mail = rows }
with_mail db next rows others is = let s = others_stand db next 1 others in seven next (record (rows_in db) { mail = rows }) (s 0 refl refl refl refl refl) is (s 3 refl refl refl refl refl) (s 4 refl refl refl refl refl) (s 6 refl refl refl refl refl) (s 8 refl refl refl refl refl) (s 10 refl refl refl refl refl)

pub with_runs : (db next : Trees) (rows : List Row) → ((t : ℕ) → t ≢ 3 → IsNoIndex office_schema t → next t ≡ db t) → next 3 ≡ rows → rows_in next ≡ record (rows_in db) { runs = rows }
with_runs db next rows others is = let s = others_stand db next 3 others in seven next (record (rows_in db) { runs = rows }) (s 0 refl refl refl refl refl) (s 1 refl refl refl refl refl) is (s 4 refl refl refl refl refl) (s 6 refl refl refl refl refl) (s 8 refl refl refl refl refl) (s 10 refl refl refl refl refl)

pub with_sources : (db next : Trees) (rows : List Row) → ((t : ℕ) → t ≢ 4 → IsNoIndex office_schema t → next t ≡ db t) → next 4 ≡ rows → rows_in next ≡ record (rows_in db) { sources = rows }
with_sources db next rows others is = let s = others_stand db next 4 others in seven next (record (rows_in db) { sources = rows }) (s 0 refl refl refl refl refl) (s 1 refl refl refl refl refl) (s 3 refl refl refl refl refl) is (s 6 refl refl refl refl refl) (s 8 refl refl refl refl refl) (s 10 refl refl refl refl refl)

pub with_rows : (db next : Trees) (rows : List Row) → ((t : ℕ) → t ≢ 6 → IsNoIndex office_schema t → next t ≡ db t) → next 6 ≡ rows → rows_in next ≡ record (rows_in db) { rows = rows }
with_rows db next rows others is = let s = others_stand db next 6 others in seven next (record (rows_in db) { rows = rows }) (s 0 refl refl refl refl refl) (s 1 refl refl refl refl refl) (s 3 refl refl refl refl refl) (s 4 refl refl refl refl refl) is (s 8 refl refl refl refl refl) (s 10 refl refl refl refl refl)

pub with_facts : (db next : Trees) (rows : List Row) → ((t : ℕ) → t ≢ 8 → IsNoIndex office_schema t → next t ≡ db t) → next 8 ≡ rows → rows_in next ≡ record (rows_in db) { facts = rows }
with_facts db next rows others is = let s = others_stand db next 8 others in seven next (record (rows_in db) { facts = rows }) (s 0 refl refl refl refl refl) (s 1 refl refl refl refl refl) (s 3 refl refl refl refl refl) (s 4 refl refl refl refl refl) (s 6 refl refl refl refl refl) is (s 10 refl refl refl refl refl)

pub with_delays : (db next : Trees) (rows : List Row) → ((t : ℕ) → t ≢ 10 → IsNoIndex office_schema t → next t ≡ db t) → next 10 ≡ rows → rows_in next ≡ record (rows_in db) { delays = rows }
with_delays db next rows others is = let s = others_stand db next 10 others in seven next (record (rows_in db) { delays = rows }) (s 0 refl refl refl refl refl) (s 1 refl refl refl refl refl) (s 3 refl refl refl refl refl) (s 4 refl refl refl refl refl) (s 6 refl refl refl refl refl) (s 8 refl refl refl refl refl) is

adds : (db next : Trees) (sender number : ℕ) (text : List ℕ) → Inserted office_schema mail_table db next (letter (db 1) sender number text) → AddsLetter db next sender number text
adds db next sender number text it = record {
  row = letter (db 1) sender number text;
  says = letter_says (db 1) sender number text;
  free = it.free;
  put = with_mail db next _ it.others it.rows;
}

pub keeps : (sender number : ℕ) (text : List ℕ) (old new : State) (count : ℕ) → old.now.schema ≡ office_schema → Executes keep_text (Int (pos sender) ∷ Int (pos number) ∷ Blob text ∷ []) old new (Ok count)
    → (new.now.schema ≡ office_schema) × AddsLetter old.now.trees new.now.trees sender number text
keeps sender number text old new count has h =
    let params = Int (pos sender) ∷ Int (pos number) ∷ Blob text ∷ [] in
    let command = Insert 1 (Values keep_terms 4) in
    let run : Writes old new None command (statement_of keep_text (understood office_schema keep_text)) params count = runs_as keep_text params old new office_schema has command keep_is keep_plain count h in
    let done = subst (λ s. Does old.step_limit (mode_of old) params (record old.now { schema = s }) (statement_of keep_text (understood office_schema keep_text)) None command (Ok (run.tally, new.now))) has run.changed in
    let made = inserts_one office_schema 1 mail_table old.step_limit (mode_of old) params (statement_of keep_text (understood office_schema keep_text)) old.now.trees keep_terms 4 (letter_source sender number text) run.tally new.now refl refl refl done in
    (made.0, adds old.now.trees new.now.trees sender number text made.1)

abbrev source_of : NewLetter → Row
source_of letter = letter_source letter.sender letter.number letter.text

each_letter : (db next : Trees) (letters : List NewLetter) → InsertedEach office_schema mail_table db next (map source_of letters) → AddsLetters db next letters
each_letter db next [] same = same
each_letter db next (l ∷ letters) it = (it.0, adds db it.0 l.sender l.number l.text it.1, each_letter it.0 next letters it.2)

pub keeps_eight : (old new : State) (count : ℕ) → old.now.schema ≡ office_schema → (letters : List NewLetter) → length letters ≡ 8 → Executes keep_eight_text (flat_map letter_parameters letters) old new (Ok count)
    → (new.now.schema ≡ office_schema) × AddsLetters old.now.trees new.now.trees letters
keeps_eight old new count has = of_eight (λ letters. Executes keep_eight_text (flat_map letter_parameters letters) old new (Ok count) → (new.now.schema ≡ office_schema) × AddsLetters old.now.trees new.now.trees letters) each
  where
    each : (a b c e f g i j : NewLetter) → Executes keep_eight_text (flat_map letter_parameters (a ∷ b ∷ c ∷ e ∷ f ∷ g ∷ i ∷ j ∷ [])) old new (Ok count) → (new.now.schema ≡ office_schema) × AddsLetters old.now.trees new.now.trees (a ∷ b ∷ c ∷ e ∷ f ∷ g ∷ i ∷ j ∷ [])
    each a b c e f g i j h =
        let params = flat_map letter_parameters (a ∷ b ∷ c ∷ e ∷ f ∷ g ∷ i ∷ j ∷ []) in
        let command = Insert 1 (Values keep_eight_terms 4) in
        let text = statement_of keep_eight_text (understood office_schema keep_eight_text) in
        let run : Writes old new None command text params count = runs_as keep_eight_text params old new office_schema has command keep_eight_is.0 keep_eight_is.1 count h in
        let done = subst (λ s. Does old.step_limit (mode_of old) params (record old.now { schema = s }) text None command (Ok (run.tally, new.now))) has run.changed in
        let made = inserts_each office_schema 1 mail_table old.step_limit (mode_of old) params text old.now.trees keep_eight_terms 4 (source_of a) (map source_of (b ∷ c ∷ e ∷ f ∷ g ∷ i ∷ j ∷ [])) run.tally new.now refl refl refl done in
        (made.0, each_letter old.now.trees new.now.trees (a ∷ b ∷ c ∷ e ∷ f ∷ g ∷ i ∷ j ∷ []) made.1)

-- a text that was added under a free number stands there
pub inserted : (db next : Trees) (sender number : ℕ) (text : List ℕ) → AddsLetter db next sender number text → get (kept_rows (db 1)) (sender, number) ≡ None
    → kept_rows (next 1) ≡ insert (kept_rows (db 1)) (sender, number) text
inserted db next sender number text it free = ap (λ (r : Rows). kept_rows r.mail) it.put ∙ kept_put it.row (sender, number) text (db 1) it.says it.free free

pub inserted_on : {T E : Type 0} (result given : Result T E) (db next : Trees) (sender number : ℕ) (text : List ℕ) → result ≡ given → OnOk given (AddsLetter db next sender number text) → get (kept_rows (db 1)) (sender, number) ≡ None
    → OnOk result (kept_rows (next 1) ≡ insert (kept_rows (db 1)) (sender, number) text)
inserted_on {T} {E} result given db next sender number text same h free = subst (λ r. OnOk r (kept_rows (next 1) ≡ insert (kept_rows (db 1)) (sender, number) text)) (sym same) (go given h)
  where
    go : (r : Result T E) → OnOk r (AddsLetter db next sender number text) → OnOk r (kept_rows (next 1) ≡ insert (kept_rows (db 1)) (sender, number) text)
    go (Ok v) it = inserted db next sender number text it free
    go (Err e) it = tt
