-- What the steps of the migration make of the tables.
use Rattle.std.proofs.Common.{◌≡◌, ◌≢◌, inr, ◌≤◌, ℕ, List, [], ◌∷◌, Bool, true, false, cond, ◌&&◌, ◌==◌, nat_le, Option, Some, None, Result, Ok, Err, IfOk, length, is_some, map, refl, sym, ap, subst, ◌∙◌, arith}
use Rattle.std.proofs.lemmas.Bool.Decides.{nat_tests}
use Rattle.std.specs.List.Sorted.{IsPermutation}
use Rattle.std.specs.Result.{result_ok, IsErrAnd}
use Rattle.sqlite.specs.Order.{Row, column}
use Rattle.sqlite.specs.Effect.{Database}
use Rattle.sqlite.specs.State.{State}
use Rattle.sqlite.specs.Tree.{Trees, put_row}
use Rattle.office_mail.specs.Lists.{Lists}
use Rattle.office_mail.specs.Runs.{cover}
use Rattle.office_mail.specs.Setup.{IsSetup}
use Rattle.office_store_keeper.specs.declared.faults.Cause.{Cause}
use Rattle.office_store_keeper.specs.declared.faults.Cause.TheVariants.{BadRow}
use Rattle.office_store_keeper.specs.declared.faults.KeepFault.{KeepFault}
use Rattle.office_store_keeper.specs.declared.faults.KeepFault.TheVariants.{NoMemory, Store}
use Rattle.office_store_keeper.specs.declared.faults.KeepFault.TheVariants as kept
use Rattle.office_store.specs.declared.openings.OpenFault.{OpenFault}
use Rattle.office_store.specs.declared.openings.OpenFault.TheVariants as opening
use Rattle.office_store_tables.specs.declared.said.Said.{Said}
use Rattle.office_store_tables.specs.Layout.{schema_before, office_schema, fact_delays}
use Rattle.office_store_tables.specs.Tables.{number_in, text_in, office_by, office_in, said_in, kept_rows, IsWhole}
use Rattle.office_store_tables.specs.TableContent.{release_place}
use Rattle.office_store_tables.specs.TableSteps.{Rows, rows_in, SaysAlone, Silences, SaysMore, office_columns}
use Rattle.office_store_tables.specs.steps.CreatingSteps.{Makes, schema_of_six}
use Rattle.office_store_tables.specs.SetupText.{setup_text}
use Rattle.office_store.specs.Opening.{text_by, text_of_one, text_before, kept_text, lists_by, open_fault, IsKeptFor, IsKeptBefore, IsKeptForOther, IsMigrated, IsUnreadable}
use Rattle.office_store.specs.steps.Opening.{shown_office}
use Rattle.office_store_keeper.specs.LastDelays.{IsLastTold}
use Rattle.office_store.specs.Migrating.{AreMessages, KeepsDelays, Migrates}
use Rattle.office_store.specs.steps.MigratingSteps.{count_by, count_shown, IsJudged, PutsLast, Widens, WritesAnew}
use Rattle.office_store_tables.proofs.MailLemmas.{as_many, only_shown}
use Rattle.office_store.proofs.OpenLemmas.{shown_text}
use Rattle.office_store_tables.proofs.RunLemmas.{said_one}
use Rattle.office_store_tables.proofs.SetupRoundTrip.{read_back}

pub widens : (a b : State) → Makes schema_of_six fact_delays a b → Widens a b
widens a b made = record {
  on = record { inside = record { schema = made.schema_is; begun = made.begun }; committed = made.committed };
  rows = λ i. record {
    office = made.others.0 i;
    mail = made.others.1.0 i;
    runs = made.others.1.1.0 i;
    sources = made.others.1.1.1.0 i;
    rows = made.others.1.1.1.1.0 i;
    facts = made.others.1.1.1.1.1.0 i;
    delays = made.empty i;
  };
}

-- ---- what the office says

-- the setup's text is had of a row with the id 1, this number and a count of 32 bits
pub record Tells (number : ℕ) (o : Option (ℕ × Said)) (text : List ℕ) : Type 0 where
  pub said : Said
  pub is : o ≡ Some (1, said)
  pub number_is : said.schema ≡ number
  pub text_is : said.setup ≡ text
  pub fits : said.finished ≤ 4_294_967_295

tells_by : (number : ℕ) (o : Option (ℕ × Said)) (text : List ℕ) → text_by number o ≡ Some text → Tells number o text
tells_by number None text h = absurd (let e = h in cc)
tells_by number (Some (id, said)) text h = go (id == 1) refl (said.schema == number) refl (nat_le said.finished 4_294_967_295) refl h
  where
    go : (a : Bool) → (id == 1) ≡ a → (b : Bool) → (said.schema == number) ≡ b → (c : Bool) → nat_le said.finished 4_294_967_295 ≡ c → cond {A = Option (List ℕ)} (a && b && c) (Some said.setup) None ≡ Some text → Tells number (Some (id, said)) text
    go true p true q true r h =
        let one : id ≡ 1 = grind (arith, nat_tests) in
        record { said = said; is = ap (λ n. Some (n, said)) one; number_is = grind (arith, nat_tests); text_is = cc; fits = grind (arith, nat_tests) }
    go true p true q false r h = absurd (let e = h in cc)
    go true p false q c r h = absurd (let e = h in cc)
    go false p b q c r h = absurd (let e = h in cc)

pub record OnlyTells (number : ℕ) (rows : List Row) (text : List ℕ) : Type 0 where
  pub row : Row
  pub one : rows ≡ row ∷ []
  pub tells : Tells number (office_in row) text

only_tells : (number : ℕ) (rows : List Row) (text : List ℕ) → text_of_one number office_in rows ≡ Some text → OnlyTells number rows text
only_tells number [] text h = absurd (let e = h in cc)
only_tells number (row ∷ []) text h = record { row = row; one = refl; tells = tells_by number (office_in row) text h }
only_tells number (a ∷ b ∷ rows) text h = absurd (let e = h in cc)

-- the count that an office's row shows
counts_by : (id schema : Option ℕ) (setup : Option (List ℕ)) (finished : Option ℕ) (said : Said) → office_by id schema setup finished ≡ Some (1, said) → said.finished ≤ 4_294_967_295 → count_by finished ≡ said.finished
counts_by None schema setup finished said h fits = absurd (let e = h in cc)
counts_by (Some id) None setup finished said h fits = absurd (let e = h in cc)
counts_by (Some id) (Some schema) None finished said h fits = absurd (let e = h in cc)
counts_by (Some id) (Some schema) (Some setup) None said h fits = absurd (let e = h in cc)
counts_by (Some id) (Some schema) (Some setup) (Some n) said h fits =
    let same : ◌≡◌ {A = ℕ × Said} (id, record { schema = schema; setup = setup; finished = n }) (1, said) = cc in
    let is : n ≡ said.finished = ap (λ (x : ℕ × Said). x.1.finished) same in
    let low : nat_le n 4_294_967_295 ≡ true = grind (arith, nat_tests) in
    rw low is

counts_row : (row : Row) (said : Said) → office_in row ≡ Some (1, said) → said.finished ≤ 4_294_967_295 → count_by (number_in (column row 4)) ≡ said.finished
unfolding office_in
counts_row row said h fits = counts_by (number_in (column row 0)) (number_in (column row 2)) (text_in (column row 3)) (number_in (column row 4)) said h fits

pub judges : (setup : Lists) (rows shown : List Row) → IsPermutation (map office_columns rows) shown → lists_by (text_of_one 1 shown_office shown) ≡ Some setup → IsJudged setup rows (count_shown shown)
judges setup rows shown same is = go (text_of_one 1 shown_office shown) refl is
  where
    whole : text_of_one 1 shown_office shown ≡ text_before rows
    whole = shown_text 1 rows shown same

    count_is : (shown : List Row) (row : Row) → IsPermutation (map office_columns (row ∷ [])) shown → count_shown shown ≡ count_by (number_in (column row 4))
    count_is [] row same = absurd (omega (arith, as_many office_columns (row ∷ []) [] same))
    count_is (s ∷ []) row same =
        let one = only_shown office_columns (row ∷ []) s same in
        let at : s ≡ office_columns row = one.2 ∙ sym (ap office_columns (first_is row one.0 one.1)) in
        ap (λ r. count_by (number_in (column r 3))) at
      where
        first_is : (a b : Row) → ◌≡◌ {A = List Row} (a ∷ []) (b ∷ []) → a ≡ b
        first_is a b e = cc
    count_is (s ∷ t ∷ shown) row same = absurd (omega (arith, as_many office_columns (row ∷ []) (s ∷ t ∷ shown) same))

    go : (o : Option (List ℕ)) → text_of_one 1 shown_office shown ≡ o → lists_by o ≡ Some setup → IsJudged setup rows (count_shown shown)
    go None e h = absurd (let none = h in cc)
    go (Some text) e h =
        let only = only_tells 1 rows text (sym whole ∙ e) in
        let said_is : said_in rows ≡ Some only.tells.said = ap said_in only.one ∙ said_one only.row only.tells.said only.tells.is in
        let finished : count_shown shown ≡ only.tells.said.finished = count_is shown only.row (subst (λ l. IsPermutation (map office_columns l) shown) only.one same) ∙ counts_row only.row only.tells.said only.tells.is only.tells.fits in
        record {
          setup_is = ap lists_by (sym whole) ∙ is;
          said = only.tells.said;
          said_is = said_is;
          alone = (ap length only.one, ap is_some said_is);
          finished_is = finished;
          fits = omega (arith, finished, only.tells.fits);
        }

pub judges_on : {F : Type 0} (setup : Lists) (rows shown : List Row) (result : Result ℕ F) → IsPermutation (map office_columns rows) shown → IfOk result (λ n. (lists_by (text_of_one 1 shown_office shown) ≡ Some setup) × (n ≡ count_shown shown)) → IfOk result (λ n. IsJudged setup rows n)
judges_on setup rows shown (Ok n) same h = subst (IsJudged setup rows) (sym h.1) (judges setup rows shown same h.0)
judges_on setup rows shown (Err e) same h = tt

pub shown_before : (rows shown : List Row) → IsPermutation (map office_columns rows) shown → lists_by (text_of_one 1 shown_office shown) ≡ lists_by (text_before rows)
shown_before rows shown same = ap lists_by (shown_text 1 rows shown same)

-- ---- what is written

office_rest : (db next : Trees) (last : Option ℕ) → PutsLast db next last → next 0 ≡ db 0
office_rest db next None put = ap (λ (r : Rows). r.office) put
office_rest db next (Some number) put = ap (λ (r : Rows). r.office) put.put

keeps_last : (db next : Trees) (last : Option ℕ) → PutsLast db next last → db 10 ≡ [] → KeepsDelays last (next 10)
keeps_last db next None put none = ap (λ (r : Rows). r.delays) put ∙ none
keeps_last db next (Some number) put none = (put.row, ap (λ (r : Rows). r.delays) put.put ∙ ap (put_row put.row) none, put.says)

last_rest : (db next : Trees) (last : Option ℕ) → PutsLast db next last → rows_in next ≡ record (rows_in db) { delays = next 10 }
last_rest db next None put = λ i. record (put i) { delays = next 10 }
last_rest db next (Some number) put = λ i. record (put.put i) { delays = next 10 }

pub writes_anew : (a b c d : Trees) (last : Option ℕ) (said : Said) → PutsLast a b last → Silences b c → SaysMore c d said → WritesAnew a d last said
writes_anew a b c d last said put silent spoken =
    let delays : d 10 ≡ b 10 = ap (λ (r : Rows). r.delays) spoken.put ∙ ap (λ (r : Rows). r.delays) silent.rest in
    let first = last_rest a b last put in
    record {
      office = λ alone.
          let none : c 0 ≡ [] = silent.left (subst SaysAlone (sym (office_rest a b last put)) alone) in
          (spoken.row, ap (λ (r : Rows). r.office) spoken.put ∙ ap (put_row spoken.row) none, spoken.says);
      delays = λ none. subst (KeepsDelays last) (sym delays) (keeps_last a b last put none);
      rest = λ i. record {
        office = d 0;
        mail = (ap (λ (r : Rows). r.mail) spoken.put ∙ ap (λ (r : Rows). r.mail) silent.rest ∙ ap (λ (r : Rows). r.mail) first) i;
        runs = (ap (λ (r : Rows). r.runs) spoken.put ∙ ap (λ (r : Rows). r.runs) silent.rest ∙ ap (λ (r : Rows). r.runs) first) i;
        sources = (ap (λ (r : Rows). r.sources) spoken.put ∙ ap (λ (r : Rows). r.sources) silent.rest ∙ ap (λ (r : Rows). r.sources) first) i;
        rows = (ap (λ (r : Rows). r.rows) spoken.put ∙ ap (λ (r : Rows). r.rows) silent.rest ∙ ap (λ (r : Rows). r.rows) first) i;
        facts = (ap (λ (r : Rows). r.facts) spoken.put ∙ ap (λ (r : Rows). r.facts) silent.rest ∙ ap (λ (r : Rows). r.facts) first) i;
        delays = d 10;
      };
    }

pub migrates : (setup : Lists) (a b d : Trees) (finished : ℕ) (last : Option ℕ) → rows_in b ≡ record (rows_in a) { delays = [] } → IsJudged setup (b 0) finished → AreMessages setup (kept_rows (b 1)) finished
    → IsLastTold setup (kept_rows (b 1)) (cover setup (kept_rows (b 1)) finished (release_place setup)) last → WritesAnew b d last (record { schema = 2; setup = setup_text setup; finished = finished }) → Migrates setup a d
migrates setup a b d finished last wide judged messages told written =
    let office = written.office judged.alone in
    let mail : b 1 ≡ a 1 = ap (λ (r : Rows). r.mail) wide in
    let count : finished ≡ judged.said.finished = judged.finished_is in
    record {
      said = judged.said;
      said_is = ap said_in (sym (ap (λ (r : Rows). r.office) wide)) ∙ judged.said_is;
      fits = omega (arith, count, judged.fits);
      row = office.0;
      one = office.1;
      row_says = office.2 ∙ ap (λ n. Some (1, record { schema = 2; setup = setup_text setup; finished = n })) count;
      mail = ap (λ (r : Rows). r.mail) written.rest ∙ mail;
      runs = ap (λ (r : Rows). r.runs) written.rest ∙ ap (λ (r : Rows). r.runs) wide;
      sources = ap (λ (r : Rows). r.sources) written.rest ∙ ap (λ (r : Rows). r.sources) wide;
      rows = ap (λ (r : Rows). r.rows) written.rest ∙ ap (λ (r : Rows). r.rows) wide;
      facts = ap (λ (r : Rows). r.facts) written.rest ∙ ap (λ (r : Rows). r.facts) wide;
      messages = subst (λ l. AreMessages setup (kept_rows l) judged.said.finished) mail (subst (AreMessages setup (kept_rows (b 1))) count messages);
      last = last;
      last_is = subst (λ l. IsLastTold setup (kept_rows l) (cover setup (kept_rows l) judged.said.finished (release_place setup)) last) mail
          (subst (λ n. IsLastTold setup (kept_rows (b 1)) (cover setup (kept_rows (b 1)) n (release_place setup)) last) count told);
      delays = written.delays (ap (λ (r : Rows). r.delays) wide);
    }

-- the migrated tables keep the setup
pub migrated_kept : (setup : Lists) (a : Trees) (db : Database) → IsSetup setup → db.schema ≡ office_schema → Migrates setup a db.trees → IsKeptFor setup db
migrated_kept setup a db valid schema done =
    let fits : nat_le done.said.finished 4_294_967_295 ≡ true = let low = done.fits in grind (arith, nat_tests) in
    let text : text_by 2 (Some (1, record { schema = 2; setup = setup_text setup; finished = done.said.finished })) ≡ Some (setup_text setup) = rw fits refl in
    record {
      schema = schema;
      setup_is = ap (λ rows. lists_by (kept_text rows)) done.one ∙ ap (λ said. lists_by (text_by 2 said)) done.row_says ∙ ap lists_by text ∙ ap result_ok (read_back setup valid);
    }

-- the tables were those of a store of schema 1
before_is : (setup : Lists) (a : Database) (b : Trees) (finished : ℕ) → a.schema ≡ schema_before → rows_in b ≡ record (rows_in a.trees) { delays = [] } → IsJudged setup (b 0) finished → IsKeptBefore setup a
before_is setup a b finished six wide judged = record { schema = six; setup_is = subst (λ rows. lists_by (text_before rows) ≡ Some setup) (ap (λ (r : Rows). r.office) wide) judged.setup_is }

-- what the whole migration makes
pub migrated : (setup : Lists) (a b j f d : Database) (finished : ℕ) (last : Option ℕ) (text : List ℕ) → IsSetup setup → a.schema ≡ schema_before → d.schema ≡ office_schema → text ≡ setup_text setup → rows_in b.trees ≡ record (rows_in a.trees) { delays = [] }
    → IsJudged setup (b.trees 0) finished → j ≡ b → AreMessages setup (kept_rows (j.trees 1)) finished × IsLastTold setup (kept_rows (j.trees 1)) (cover setup (kept_rows (j.trees 1)) finished (release_place setup)) last → f ≡ j
    → WritesAnew f.trees d.trees last (record { schema = 2; setup = text; finished = finished }) → IsMigrated setup a d
migrated setup a b j f d finished last text valid six seven is wide judged same found still written =
    let told = subst (λ (x : Database). AreMessages setup (kept_rows (x.trees 1)) finished × IsLastTold setup (kept_rows (x.trees 1)) (cover setup (kept_rows (x.trees 1)) finished (release_place setup)) last) same found in
    let anew = subst (λ (x : Database). WritesAnew x.trees d.trees last (record { schema = 2; setup = text; finished = finished })) (still ∙ same) written in
    let done = migrates setup a.trees b.trees d.trees finished last wide judged told.0 told.1 (subst (λ t. WritesAnew b.trees d.trees last (record { schema = 2; setup = t; finished = finished })) is anew) in
    record {
      was = before_is setup a b.trees finished six wide judged;
      kept = migrated_kept setup a.trees d valid seven done;
      migrates = done;
    }

-- why one isn't made: an order or a text isn't a message
pub unreadable : (setup : Lists) (a b j : Database) (finished : ℕ) → a.schema ≡ schema_before → rows_in b.trees ≡ record (rows_in a.trees) { delays = [] } → IsJudged setup (b.trees 0) finished → j ≡ b
    → (IsWhole (kept_rows (j.trees 1)) (j.trees 1) → AreMessages setup (kept_rows (j.trees 1)) finished → ⊥) → IsUnreadable setup a
unreadable setup a b j finished six wide judged same bad = record {
  kept = before_is setup a b.trees finished six wide judged;
  lacks = λ said is whole messages.
      let mail : j.trees 1 ≡ a.trees 1 = ap (λ (x : Database). x.trees 1) same ∙ ap (λ (r : Rows). r.mail) wide in
      let told : Some judged.said ≡ Some said = sym judged.said_is ∙ ap said_in (ap (λ (r : Rows). r.office) wide) ∙ is in
      let one : judged.said ≡ said = cc in
      let count : said.finished ≡ finished = sym (judged.finished_is ∙ ap (λ (s : Said). s.finished) one) in
      bad (subst (λ rows. IsWhole (kept_rows rows) rows) (sym mail) whole)
      (subst (λ rows. AreMessages setup (kept_rows rows) finished) (sym mail) (subst (AreMessages setup (kept_rows (a.trees 1))) count messages));
}

-- another setup is kept
pub other_kept : (setup : Lists) (a b : Database) → a.schema ≡ schema_before → rows_in b.trees ≡ record (rows_in a.trees) { delays = [] } → (kept : Lists) × (lists_by (text_before (b.trees 0)) ≡ Some kept) × (kept ≢ setup) → IsKeptForOther setup a
other_kept setup a b six wide other = record {
  other = other.0;
  kept = inr (record { schema = six; setup_is = subst (λ rows. lists_by (text_before rows) ≡ Some other.0) (ap (λ (r : Rows). r.office) wide) other.1 });
  differs = other.2;
}

-- or none
pub none_kept : (a b : Database) → rows_in b.trees ≡ record (rows_in a.trees) { delays = [] } → lists_by (text_before (b.trees 0)) ≡ None → lists_by (text_before (a.trees 0)) ≡ None
none_kept a b wide none = subst (λ rows. lists_by (text_before rows) ≡ None) (ap (λ (r : Rows). r.office) wide) none

-- a bad row that is told by an opening was told by the store
pub opened_bad : {T U : Type 0} (r : Result T OpenFault) (given : KeepFault) → r ≡ Err (opening.Store BadRow) → IsErrAnd r (λ e. e ≡ open_fault given) → ◌≡◌ {A = Result U KeepFault} (Err given) (Err (kept.Store BadRow))
opened_bad (Ok v) given h p = absurd (let e = h in cc)
opened_bad {T} (Err e) NoMemory h p = let same : ◌≡◌ {A = Result T OpenFault} (Err opening.NoMemory) (Err (opening.Store BadRow)) = ap Err (sym p) ∙ h in absurd (let x = same in cc)
opened_bad {T} (Err e) (Store cause) h p = let same : ◌≡◌ {A = Result T OpenFault} (Err (opening.Store cause)) (Err (opening.Store BadRow)) = ap Err (sym p) ∙ h in let is : cause ≡ BadRow = cc in ap (λ (x : Cause). Err (kept.Store x)) is

is_same : {T : Type 0} (r : Result T OpenFault) (given fault : OpenFault) → r ≡ Err fault → IsErrAnd r (λ e. e ≡ given) → given ≡ fault
is_same (Ok v) given fault h p = absurd (let e = h in cc)
is_same (Err e) given fault h p = let same : e ≡ fault = cc in sym p ∙ same

pub opened_same : {T U : Type 0} (r : Result T OpenFault) (given fault : OpenFault) → r ≡ Err fault → IsErrAnd r (λ e. e ≡ given) → ◌≡◌ {A = Result U OpenFault} (Err given) (Err fault)
opened_same r given fault h p = ap Err (is_same r given fault h p)
