-- A text that is kept leaves the tables legible, and changes the mail alone.
use Rattle.std.proofs.Common.{◌≡◌, inl, inr, ◌⊎◌, ℕ, List, [], ◌∷◌, filter_map, length, Bool, true, false, cond, ◌&&◌, T, Option, Some, None, IsSome, Result, Ok, Err, OnOk, OnErr, refl, sym, ap, subst, ◌∙◌}
use Rattle.std.proofs.lemmas.Cmp.{tied_itself}
use Rattle.std.specs.Cmp.{IsTotalOrder}
use Rattle.std.specs.List.{cons_option}
use Rattle.std.specs.declared.cmp.Ordering.{Ordering}
use Rattle.std.specs.declared.cmp.Ordering.TheVariants.{Less, Equal, Greater}
use Rattle.std.specs.Ordering.{eq_by_cmp, is_eq, is_lt}
use Rattle.std.specs.FinMap.{FinMap, find, is_sorted, get, insert, entries, entries_sorted, get-entries, get-insert}
use Rattle.std.specs.FinMap.Entries.{below_all}
use Rattle.sqlite.specs.Tree.{Trees, put_row}
use Rattle.sqlite.specs.Effect.{Database}
use Rattle.sqlite_rules.specs.Lists.{Has}
use Rattle.testing_rules_items.specs.Words.{byte_cmp}
use Rattle.testing_rules_model.specs.Moves.{row_cmp}
use Rattle.testing_rules_model.proofs.Orders.{text_order}
use Rattle.office_mail.specs.Lists.{Lists}
use Rattle.office_mail.specs.Kept.{Kept, Place, place_cmp}
use Rattle.office_mail.proofs.KeptFacts.{places_total, exact_places}
use Rattle.office_store_keeper.specs.Content.{with_text}
use Rattle.office_store_tables.specs.Tables.{letter_in, kept_rows, said_in, run_map}
use Rattle.office_store_tables.specs.TableSteps.{Rows, AddsLetter}
use Rattle.office_store_tables.specs.Entries.{source_map, entry_map}
use Rattle.office_store_tables.specs.TableContent.{message_at, source_at, row_at, suite_in, reports_to, count_said, content_in, release_place}
use Rattle.office_store_tables.specs.ReadingSteps.{message_by, source_by_message, row_by_message}
use Rattle.office_store_tables.specs.FactTables.{facts_in}
use Rattle.office_store_tables.specs.Legible.{IsWhole, SaysOnce, AreReported, AreNamed, AreRead, IsLegible}
use Rattle.office_store_tables.proofs.KeyedFacts.{tied}
use Rattle.office_store_tables.proofs.KeepLemmas.{inserted}
use Rattle.office_store_tables.proofs.SettingLemmas.{not_tied, row_order}
use Rattle.office_store_tables.proofs.Whole.{whole_put}

-- ---- entries of a map

lesser : (o : Ordering) → T (is_lt o) → o ≡ Less
lesser Less h = refl
lesser Equal h = absurd h
lesser Greater h = absurd h

left_so : (a b : Bool) → T (a && b) → T a
left_so true b h = tt
left_so false b h = h

right_so : (a b : Bool) → T (a && b) → T b
right_so true b h = h
right_so false b h = absurd h

module _ {K V : Type 0} {R : K → K → Ordering} (total : IsTotalOrder R) where
  below_each : (x : K) (es : List (K × V)) (e : K × V) → T (below_all R x es) → Has es e → T (is_lt (R x e.0))
  below_each x [] e h there = absurd there
  below_each x (d ∷ ds) e h (inl same) = subst (λ (f : K × V). T (is_lt (R x f.0))) (sym same) (left_so (is_lt (R x d.0)) (below_all R x ds) h)
  below_each x (d ∷ ds) e h (inr there) = below_each x ds e (right_so (is_lt (R x d.0)) (below_all R x ds) h) there

  find_entry : (es : List (K × V)) (e : K × V) → T (is_sorted R es) → Has es e → find R e.0 es ≡ Some e.1
  find_entry [] e s there = absurd there
  find_entry (d ∷ ds) e s (inl same) =
      ap (λ (f : K × V). cond (eq_by_cmp R f.0 d.0) (Some d.1) (find R f.0 ds)) same
      ∙ ap (λ b. cond b (Some d.1) (find R d.0 ds)) (ap is_eq (tied_itself total d.0))
      ∙ ap (λ (f : K × V). Some f.1) (sym same)
  find_entry (d ∷ ds) e s (inr there) =
      let under : R d.0 e.0 ≡ Less = lesser (R d.0 e.0) (below_each d.0 ds e (left_so (below_all R d.0 ds) (is_sorted R ds) s) there) in
      ap (λ b. cond b (Some d.1) (find R e.0 ds)) (not_tied total d.0 e.0 under)
      ∙ find_entry ds e (right_so (below_all R d.0 ds) (is_sorted R ds) s) there

  -- an entry is found under its key
  pub entry_got : (m : FinMap R V) (e : K × V) → Has (entries m) e → get m e.0 ≡ Some e.1
  entry_got m e there = get-entries m e.0 ∙ find_entry (entries m) e (entries_sorted m) there

same_read : {A B : Type 0} (f g : A → Option B) (xs : List A) → ((x : A) → Has xs x → f x ≡ g x) → filter_map f xs ≡ filter_map g xs
same_read f g [] same = refl
same_read f g (x ∷ xs) same = ap (λ o. cons_option o (filter_map f xs)) (same x (inl refl)) ∙ ap (cons_option (g x)) (same_read f g xs (λ y there. same y (inr there)))

no_some : {X : Type 0} (o : Option X) → o ≡ None → IsSome o → ⊥
no_some (Some x) none there = absurd (let e = none in cc)
no_some None none there = absurd (let e = there in cc)

-- ---- one text more

module _ (setup : Lists) (kept : Kept) (sender number : ℕ) (text : List ℕ) (free : get kept (sender, number) ≡ None) where
  abbrev more : Kept
  more = insert kept (sender, number) text

  -- what is kept at a place stays, or nothing was kept there
  stays : (p : Place) → (get more p ≡ get kept p) ⊎ (get kept p ≡ None)
  stays p = go (eq_by_cmp place_cmp p (sender, number)) refl
    where
      go : (b : Bool) → eq_by_cmp place_cmp p (sender, number) ≡ b → (get more p ≡ get kept p) ⊎ (get kept p ≡ None)
      go true is = inr (ap (get kept) (exact_places p (sender, number) (tied (place_cmp p (sender, number)) is)) ∙ free)
      go false is = inl (get-insert places_total kept (sender, number) text p ∙ ap (λ b. cond b (Some text) (get kept p)) is)

  source_stays : (e : List ℕ × Place) → IsSome (source_at setup kept e) → source_at setup more e ≡ source_at setup kept e
  unfolding source_at message_at
  source_stays e there = elim (stays e.1) [
    | inl same ↦ ap (λ o. source_by_message e.0 e.1.0 e.1.1 (message_by setup e.1.0 e.1.1 o)) same
    | inr none ↦ absurd (no_some (source_at setup kept e) (ap (λ o. source_by_message e.0 e.1.0 e.1.1 (message_by setup e.1.0 e.1.1 o)) none) there)
  ]

  row_stays : (e : (ℕ × List ℕ) × (Place × ℕ)) → IsSome (row_at setup kept e) → row_at setup more e ≡ row_at setup kept e
  unfolding row_at message_at
  row_stays e there = elim (stays e.1.0) [
    | inl same ↦ ap (λ o. row_by_message setup.archs e.0.0 e.0.1 e.1.0.0 e.1.0.1 e.1.1 (message_by setup e.1.0.0 e.1.0.1 o)) same
    | inr none ↦ absurd (no_some (row_at setup kept e) (ap (λ o. row_by_message setup.archs e.0.0 e.0.1 e.1.0.0 e.1.0.1 e.1.1 (message_by setup e.1.0.0 e.1.0.1 o)) none) there)
  ]

  suite_stays : (sources : FinMap byte_cmp Place) (rows : FinMap row_cmp (Place × ℕ)) → ((name : List ℕ) (p : Place) → get sources name ≡ Some p → IsSome (source_at setup kept (name, p)))
      → ((key : ℕ × List ℕ) (value : Place × ℕ) → get rows key ≡ Some value → IsSome (row_at setup kept (key, value))) → suite_in setup more sources rows ≡ suite_in setup kept sources rows
  unfolding suite_in
  suite_stays sources rows source row =
      let a : filter_map (source_at setup more) (entries sources) ≡ filter_map (source_at setup kept) (entries sources) =
      same_read (source_at setup more) (source_at setup kept) (entries sources) (λ e there. source_stays e (source e.0 e.1 (entry_got text_order sources e there))) in
      let b : filter_map (row_at setup more) (entries rows) ≡ filter_map (row_at setup kept) (entries rows) =
      same_read (row_at setup more) (row_at setup kept) (entries rows) (λ e there. row_stays e (row e.0 e.1 (entry_got row_order rows e there))) in
      λ i. record { sources = a i; rows = b i }

-- ---- the tables

module _ (setup : Lists) (db next : Trees) (sender number : ℕ) (text : List ℕ) (it : AddsLetter db next sender number text) (free : get (kept_rows (db 1)) (sender, number) ≡ None) (was : IsLegible setup db) where
  office_stays : next 0 ≡ db 0
  office_stays = ap (λ (r : Rows). r.office) it.put

  mail_grows : next 1 ≡ put_row it.row (db 1)
  mail_grows = ap (λ (r : Rows). r.mail) it.put

  runs_stay : next 3 ≡ db 3
  runs_stay = ap (λ (r : Rows). r.runs) it.put

  sources_stay : next 4 ≡ db 4
  sources_stay = ap (λ (r : Rows). r.sources) it.put

  rows_stay : next 6 ≡ db 6
  rows_stay = ap (λ (r : Rows). r.rows) it.put

  kept_grows : kept_rows (next 1) ≡ insert (kept_rows (db 1)) (sender, number) text
  kept_grows = inserted db next sender number text it free

  abbrev says_still : SaysOnce (next 0)
  says_still = record {
    said = was.office.said;
    is = ap said_in office_stays ∙ was.office.is;
    once = ap length office_stays ∙ was.office.once;
    schema = was.office.schema;
    finished = was.office.finished;
    setup = was.office.setup;
  }

  mail_whole : IsWhole (kept_rows (next 1)) (next 1)
  mail_whole = subst (λ rows. IsWhole (kept_rows rows) rows) (sym mail_grows) (whole_put places_total exact_places letter_in it.row (sender, number) text (db 1) it.says it.free free was.mail)

  names_still : AreNamed setup next
  names_still = record {
    sources = subst (λ rows. IsWhole (source_map rows) rows) (sym sources_stay) was.testing.sources;
    source = λ name p found.
        let old = was.testing.source name p (ap (λ rows. get (source_map rows) name) (sym sources_stay) ∙ found) in
        subst IsSome (sym (ap (λ (k : Kept). source_at setup k (name, p)) kept_grows ∙ source_stays setup (kept_rows (db 1)) sender number text free (name, p) old)) old;
    rows = subst (λ rows. IsWhole (entry_map rows) rows) (sym rows_stay) was.testing.rows;
    row = λ key value found.
        let old = was.testing.row key value (ap (λ rows. get (entry_map rows) key) (sym rows_stay) ∙ found) in
        subst IsSome (sym (ap (λ (k : Kept). row_at setup k (key, value)) kept_grows ∙ row_stays setup (kept_rows (db 1)) sender number text free (key, value) old)) old;
  }

  pub keep_legible : IsLegible setup next
  keep_legible = record {
    office = says_still;
    schema = was.schema;
    setup_is = was.setup_is;
    mail = mail_whole;
    runs = subst (λ rows. AreReported rows was.office.said.finished) (sym runs_stay) was.runs;
    testing = names_still;
    facts = subst (λ (r : Rows). AreRead (release_place setup) r.facts r.delays) (sym it.put) was.facts;
  }

  reports_stay : (content_in setup next).reports ≡ (content_in setup db).reports
  reports_stay =
      ap (λ rows. reports_to (run_map (next 3)) (count_said (said_in rows))) office_stays
      ∙ ap (λ rows. reports_to (run_map rows) (count_said (said_in (db 0)))) runs_stay

  testing_stays : (content_in setup next).testing ≡ (content_in setup db).testing
  testing_stays =
      ap (λ (k : Kept). suite_in setup k (source_map (next 4)) (entry_map (next 6))) kept_grows
      ∙ ap (λ rows. suite_in setup (insert (kept_rows (db 1)) (sender, number) text) (source_map rows) (entry_map (next 6))) sources_stay
      ∙ ap (λ rows. suite_in setup (insert (kept_rows (db 1)) (sender, number) text) (source_map (db 4)) (entry_map rows)) rows_stay
      ∙ suite_stays setup (kept_rows (db 1)) sender number text free (source_map (db 4)) (entry_map (db 6)) was.testing.source was.testing.row

  facts_stay : (content_in setup next).facts ≡ (content_in setup db).facts
  facts_stay = ap (λ (r : Rows). facts_in (release_place setup) r.facts r.delays) it.put

  pub keep_content : content_in setup next ≡ with_text (content_in setup db) sender number text
  keep_content = λ i. record { kept = kept_grows i; reports = reports_stay i; testing = testing_stays i; facts = facts_stay i }

-- the same of a call that may have failed
module _ {T E : Type 0} (given : Result T E) (setup : Lists) (old new : Database) (sender number : ℕ) (text : List ℕ) (adds : OnOk given (AddsLetter old.trees new.trees sender number text)) (free : get (kept_rows (old.trees 1)) (sender, number) ≡ None) (was : IsLegible setup old.trees) where
  pub keep_legible_on : OnErr given (new ≡ old) → IsLegible setup new.trees
  keep_legible_on = go given adds
    where
      go : (r : Result T E) → OnOk r (AddsLetter old.trees new.trees sender number text) → OnErr r (new ≡ old) → IsLegible setup new.trees
      go (Ok v) it err = keep_legible setup old.trees new.trees sender number text it free was
      go (Err e) it err = subst (λ (d : Database). IsLegible setup d.trees) (sym err) was

  pub keep_testing_on : OnErr given (new ≡ old) → (content_in setup new.trees).testing ≡ (content_in setup old.trees).testing
  keep_testing_on = go given adds
    where
      go : (r : Result T E) → OnOk r (AddsLetter old.trees new.trees sender number text) → OnErr r (new ≡ old) → (content_in setup new.trees).testing ≡ (content_in setup old.trees).testing
      go (Ok v) it err = testing_stays setup old.trees new.trees sender number text it free was
      go (Err e) it err = ap (λ (d : Database). (content_in setup d.trees).testing) err

  pub keep_content_on : (result : Result T E) → result ≡ given → OnOk result (content_in setup new.trees ≡ with_text (content_in setup old.trees) sender number text)
  keep_content_on result same = subst (λ r. OnOk r (content_in setup new.trees ≡ with_text (content_in setup old.trees) sender number text)) (sym same) (go given adds)
    where
      go : (r : Result T E) → OnOk r (AddsLetter old.trees new.trees sender number text) → OnOk r (content_in setup new.trees ≡ with_text (content_in setup old.trees) sender number text)
      go (Ok v) it = keep_content setup old.trees new.trees sender number text it free was
      go (Err e) it = tt
