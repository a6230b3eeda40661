-- What the tables hold after a finished run.
use Rattle.std.proofs.Common.{◌≡◌, ◌<◌, ◌+◌, inl, inr, ℕ, zero, suc, List, [], ◌∷◌, ◌++◌, map, filter_map, length, slice_index_or, Bool, true, false, cond, ◌&&◌, ◌||◌, ◌==◌, nat_lt, Some, None, Result, Ok, Err, OnOk, OnErr, Contains, refl, sym, ap, subst, ◌∙◌, arith}
use Rattle.std.proofs.lemmas.Bool.Decides.{nat_tests}
use Rattle.std.proofs.lemmas.Slice.Eq.{bytes_eq-Decides}
use Rattle.std.specs.Cmp.{IsTotalOrder}
use Rattle.std.specs.Str.{bytes_eq}
use Rattle.std.specs.List.{AllByRecursion}
use Rattle.std.specs.List.Sorted.{IsStrictlySortedBy}
use Rattle.std.specs.declared.cmp.Ordering.{Ordering}
use Rattle.std.specs.declared.cmp.Ordering.TheVariants.{Less}
use Rattle.std.specs.FinMap.{FinMap, put, empty, entries, from_entries, entries-insert, len-entries, len-empty}
use Rattle.sqlite.specs.Tree.{Trees}
use Rattle.sqlite_rules.specs.Lists.{Has}
use Rattle.deb_control.specs.declared.binary.Binary.{Binary}
use Rattle.testing_rules_items.specs.declared.item.Item.TheVariants.{Upload, Build}
use Rattle.testing_rules_items.specs.Words.{byte_cmp, arch_name}
use Rattle.testing_rules_model.specs.Covered.{Covered, CoveredItem}
use Rattle.testing_rules_model.specs.Provenance.{IsUploaded, IsBuilt, binary_in as built_in}
use Rattle.testing_rules_model.specs.Moves.{row_cmp, row_key}
use Rattle.testing_rules_model.specs.InOrder.{AreByName, AreByKey}
use Rattle.testing_rules_model.specs.steps.InOrder.{IsInOrder}
use Rattle.testing_rules_model.specs.declared.suite.SourceIn.{SourceIn}
use Rattle.testing_rules_model.specs.declared.suite.RowIn.{RowIn}
use Rattle.testing_rules_model.proofs.Orders.{text_order}
use Rattle.office_mail.specs.Lists.{Lists}
use Rattle.office_mail.specs.Kept.{Kept, Place}
use Rattle.office_mail.specs.declared.message.Message.{Message}
use Rattle.office_store_keeper.specs.declared.values.Finished.{Finished}
use Rattle.office_store_keeper.specs.Content.{item_from_one, reports_in, with_run}
use Rattle.office_store_keeper.specs.FactSet.{AreHoldable, facts_after}
use Rattle.office_store_keeper.specs.Provenance.{IsArchPlace, IsGiven, IsSaid}
use Rattle.office_store_keeper.proofs.SaidItems.{said_text, saying}
use Rattle.office_store_tables.specs.Tables.{kept_rows, said_in, run_map}
use Rattle.office_store_tables.specs.TableSteps.{Rows, AddsLetter}
use Rattle.sqlite.specs.Effect.{Database}
use Rattle.office_store_tables.specs.Entries.{source_map, entry_map}
use Rattle.office_store_tables.specs.EntrySteps.{source_entry, row_entry}
use Rattle.office_store_tables.specs.FactTables.{facts_in}
use Rattle.office_store_tables.specs.steps.Finishing.{FinishesRun}
use Rattle.office_store_tables.specs.TableContent.{own_by, message_at, source_at, is_arch_place, row_as, row_at, suite_in, reports_to, count_said, content_in, release_place}
use Rattle.office_store_tables.specs.ReadingSteps.{message_by, source_by_message, row_by_message}
use Rattle.office_store_tables.proofs.MailLemmas.{empty_of}
use Rattle.office_store_tables.proofs.SettingLemmas.{row_order}
use Rattle.office_store_tables.proofs.EntryLists.{suite_of}
use Rattle.office_store_tables.proofs.EntryValues.{read_has, source_keeps, row_keeps, all_back}
use Rattle.office_store_tables.proofs.ReportFacts.{length_reports, one_run_more}
use Rattle.office_store_tables.proofs.FactMoves.{holdable_stands}

-- ---- entries that are in order

module _ {K V X : Type 0} {R : K → K → Ordering} (total : IsTotalOrder R) (key : X → K) (val : X → V) where
  abbrev entry : X → K × V
  entry x = (key x, val x)

  put_first : (x : X) (xs : List X) → AllByRecursion (λ y. R (key x) y ≡ Less) (map key xs) → put R (key x) (val x) (map entry xs) ≡ entry x ∷ map entry xs
  put_first x [] h = refl
  put_first x (y ∷ ys) h = rw (put, h.0) refl

  pub sorted_entries : (xs : List X) → IsStrictlySortedBy R (map key xs) → entries (from_entries {R = R} (map entry xs)) ≡ map entry xs
  unfolding IsStrictlySortedBy
  sorted_entries [] h = empty_of (entries (empty {R = R})) (sym (len-entries empty) ∙ len-empty R V)
  sorted_entries (x ∷ xs) h = entries-insert total (from_entries (map entry xs)) (key x) (val x) ∙ ap (put R (key x) (val x)) (sorted_entries xs h.1) ∙ put_first x xs h.0

-- ---- elements

contains_has : {X : Type 0} (xs : List X) (x : X) (k : ℕ) → k < length xs → slice_index_or xs k x ≡ x → Has xs x
contains_has [] x k h e = absurd (omega (arith, h))
contains_has (y ∷ ys) x zero h e = inl (sym e)
contains_has (y ∷ ys) x (suc k) h e = inr (contains_has ys x k (omega (arith, h)) e)

each_contained : {X : Type 0} (P : X → Type 0) (xs : List X) → ((x : X) → Contains xs x → P x) → AllByRecursion P xs
each_contained P [] f = tt
each_contained P (x ∷ xs) f = (f x (0, omega arith, refl), each_contained P xs (λ y c. f y (suc c.0, omega (arith, c.1), c.2)))

-- ---- a message that is kept

same_number : (n : ℕ) → (n == n) ≡ true
same_number n = grind (arith, nat_tests)

module _ (setup : Lists) (kept : Kept) where
  own_message : (sender number : ℕ) (m : Message) → m.sender ≡ sender → m.number ≡ number → own_by sender number (Ok m) ≡ Some m
  own_message sender number m s n =
      let a : (m.sender == sender) ≡ true = ap (λ x. x == sender) s ∙ same_number sender in
      let b : (m.number == number) ≡ true = ap (λ x. x == number) n ∙ same_number number in
      ap (λ x. cond (x && (m.number == number)) (Some m) None) a ∙ ap (λ x. cond x (Some m) None) b

  kept_message : (m : CoveredItem) → IsSaid setup kept m → message_at setup kept m.sender m.number ≡ Some (saying m)
  unfolding message_at
  kept_message m said =
      let it = said_text setup kept m said in
      ap (message_by setup m.sender m.number) it.stands ∙ ap (own_by m.sender m.number) it.reads ∙ own_message m.sender m.number (saying m) refl refl

  same_text : (t : List ℕ) → bytes_eq t t ≡ true
  same_text t = (bytes_eq-Decides t t).1 refl

  pub given_source : (items : Covered) → ((m : CoveredItem) → Contains items m → IsSaid setup kept m) → (s : SourceIn) → IsUploaded items s → source_at setup kept (source_entry s) ≡ Some s
  unfolding source_at
  given_source items said s it =
      let m : CoveredItem = record { sender = s.sender; number = s.number; item = Upload s.name s.version it.urgency it.day } in
      ap (source_by_message s.name s.sender s.number) (kept_message m (said m it.upload))
      ∙ ap (λ b. cond b (Some s) None) (same_text s.name)

  arch_test : (archs : List (List ℕ)) (arch : ℕ) → IsArchPlace archs arch → is_arch_place archs arch ≡ true
  arch_test archs arch (inl listed) = let t : nat_lt arch (length archs) ≡ true = grind (arith, nat_tests) in ap (λ b. b || (arch == 16)) t
  arch_test archs arch (inr all) = go (nat_lt arch (length archs))
    where
      go : (b : Bool) → (b || (arch == 16)) ≡ true
      go true = refl
      go false = ap (λ n. n == 16) all ∙ same_number 16

  same_binary : (place : ℕ) (binaries : List Binary) → item_from_one place binaries ≡ built_in binaries place
  same_binary zero binaries = refl
  same_binary (suc i) binaries = refl

  pub given_row : (items : Covered) → ((m : CoveredItem) → Contains items m → IsSaid setup kept m) → (r : RowIn) → IsBuilt setup.archs items r → row_at setup kept (row_entry r) ≡ Some r
  unfolding row_at
  given_row items said r it =
      let m : CoveredItem = record { sender = r.sender; number = r.number; item = Build it.binaries } in
      ap (row_by_message setup.archs r.arch r.binary.name r.sender r.number r.place) (kept_message m (said m it.build))
      ∙ ap (row_as setup.archs r.arch r.binary.name r.sender r.number r.place) (same_binary r.place it.binaries ∙ it.placed)
      ∙ ap (λ b. cond (b && (bytes_eq r.binary.name r.binary.name && bytes_eq (arch_name setup.archs r.arch) r.binary.architecture)) (Some r) None) (arch_test setup.archs r.arch it.known)
      ∙ ap (λ b. cond (b && bytes_eq (arch_name setup.archs r.arch) r.binary.architecture) (Some r) None) (same_text r.binary.name)
      ∙ ap (λ b. cond b (Some r) None) ((bytes_eq-Decides (arch_name setup.archs r.arch) r.binary.architecture).1 it.arch)

  old_source : (m : FinMap byte_cmp Place) (s : SourceIn) → Contains (filter_map (source_at setup kept) (entries m)) s → source_at setup kept (source_entry s) ≡ Some s
  old_source m s c =
      let e = read_has (source_at setup kept) (entries m) s (contains_has (filter_map (source_at setup kept) (entries m)) s c.0 c.1 c.2) in
      ap (source_at setup kept) (source_keeps setup kept e.0 s e.2) ∙ e.2

  old_row : (m : FinMap row_cmp (Place × ℕ)) (r : RowIn) → Contains (filter_map (row_at setup kept) (entries m)) r → row_at setup kept (row_entry r) ≡ Some r
  old_row m r c =
      let e = read_has (row_at setup kept) (entries m) r (contains_has (filter_map (row_at setup kept) (entries m)) r c.0 c.1 c.2) in
      ap (row_at setup kept) (row_keeps setup kept e.0 r e.2) ∙ e.2

-- ---- a finished run

module _ (setup : Lists) (db next : Trees) (run : ℕ) (done : Finished) (it : FinishesRun (release_place setup) db next run done) where
  pub reports_after : run ≡ length (content_in setup db).reports + 1 → (content_in setup next).reports ≡ (content_in setup db).reports ++ reports_in done ∷ []
  reports_after is =
      let n = count_said (said_in (db 0)) in
      let next_run : run ≡ n + 1 = is ∙ ap (λ k. k + 1) (length_reports (run_map (db 3)) n) in
      let count : count_said (said_in (next 0)) ≡ run = ap count_said it.writes.says in
      ap (reports_to (run_map (next 3))) count ∙ ap (λ m. reports_to m run) it.writes.reported ∙ one_run_more (run_map (db 3)) run (reports_in done) n next_run

  pub kept_after : (content_in setup next).kept ≡ (content_in setup db).kept
  kept_after = ap kept_rows it.writes.mail

  pub sources_named : IsGiven setup (content_in setup db) done.testing → AllByRecursion (λ s. source_at setup (kept_rows (db 1)) (source_entry s) ≡ Some s) done.testing.sources
  unfolding suite_in
  sources_named given = each_contained (λ s. source_at setup (kept_rows (db 1)) (source_entry s) ≡ Some s) done.testing.sources (λ s c. elim (given.given.sources s c) [
    | inl old ↦ old_source setup (kept_rows (db 1)) (source_map (db 4)) s old
    | inr new ↦ given_source setup (kept_rows (db 1)) given.items given.said s new
  ])

  pub rows_named : IsGiven setup (content_in setup db) done.testing → AllByRecursion (λ r. row_at setup (kept_rows (db 1)) (row_entry r) ≡ Some r) done.testing.rows
  unfolding suite_in
  rows_named given = each_contained (λ r. row_at setup (kept_rows (db 1)) (row_entry r) ≡ Some r) done.testing.rows (λ r c. elim (given.given.rows r c) [
    | inl old ↦ old_row setup (kept_rows (db 1)) (entry_map (db 6)) r old
    | inr new ↦ given_row setup (kept_rows (db 1)) given.items given.said r new
  ])

  pub testing_after : AreByName done.testing.sources → AreByKey done.testing.rows → IsGiven setup (content_in setup db) done.testing → (content_in setup next).testing ≡ done.testing
  unfolding suite_in
  testing_after by_name by_key given =
      let kept : kept_rows (next 1) ≡ kept_rows (db 1) = kept_after in
      let sources : entries (source_map (next 4)) ≡ map source_entry done.testing.sources = ap entries it.writes.sources ∙ sorted_entries text_order (λ (s : SourceIn). s.name) (λ (s : SourceIn). (s.sender, s.number)) done.testing.sources by_name in
      let rows : entries (entry_map (next 6)) ≡ map row_entry done.testing.rows = ap entries it.writes.rows ∙ sorted_entries row_order row_key (λ (r : RowIn). ((r.sender, r.number), r.place)) done.testing.rows by_key in
      suite_of ((content_in setup next).testing) done.testing.sources done.testing.rows
      (ap (λ (k : Kept). filter_map (source_at setup k) (entries (source_map (next 4)))) kept ∙ ap (filter_map (source_at setup (kept_rows (db 1)))) sources ∙ all_back source_entry (source_at setup (kept_rows (db 1))) done.testing.sources (sources_named given))
      (ap (λ (k : Kept). filter_map (row_at setup k) (entries (entry_map (next 6)))) kept ∙ ap (filter_map (row_at setup (kept_rows (db 1)))) rows ∙ all_back row_entry (row_at setup (kept_rows (db 1))) done.testing.rows (rows_named given))

  pub facts_now : AreHoldable setup (facts_after done.facts (content_in setup db).facts) → (content_in setup next).facts ≡ facts_after done.facts (content_in setup db).facts
  facts_now holdable = (it.writes.facts (holdable_stands setup done.facts (content_in setup db).facts holdable)).has

  pub content_after : run ≡ length (content_in setup db).reports + 1 → AreByName done.testing.sources → AreByKey done.testing.rows → IsGiven setup (content_in setup db) done.testing → AreHoldable setup (facts_after done.facts (content_in setup db).facts)
      → content_in setup next ≡ with_run (content_in setup db) done
  content_after is by_name by_key given holdable = λ i. record { kept = kept_after i; reports = reports_after is i; testing = testing_after by_name by_key given i; facts = facts_now holdable i }

-- the same of a call that answered
module _ {T E : Type 0} (result given : Result T E) (same : result ≡ given) (setup : Lists) (db next : Trees) (run : ℕ) (done : Finished) (finishes : OnOk given (FinishesRun (release_place setup) db next run done)) where
  pub reports_on : run ≡ length (content_in setup db).reports + 1 → OnOk result ((content_in setup next).reports ≡ (content_in setup db).reports ++ reports_in done ∷ [])
  reports_on is = subst (λ r. OnOk r ((content_in setup next).reports ≡ (content_in setup db).reports ++ reports_in done ∷ [])) (sym same) (go given finishes)
    where
      go : (r : Result T E) → OnOk r (FinishesRun (release_place setup) db next run done) → OnOk r ((content_in setup next).reports ≡ (content_in setup db).reports ++ reports_in done ∷ [])
      go (Ok v) it = reports_after setup db next run done it is
      go (Err e) it = tt

  pub facts_on : AreHoldable setup (facts_after done.facts (content_in setup db).facts) → OnOk result ((content_in setup next).facts ≡ facts_after done.facts (content_in setup db).facts)
  facts_on holdable = subst (λ r. OnOk r ((content_in setup next).facts ≡ facts_after done.facts (content_in setup db).facts)) (sym same) (go given finishes)
    where
      go : (r : Result T E) → OnOk r (FinishesRun (release_place setup) db next run done) → OnOk r ((content_in setup next).facts ≡ facts_after done.facts (content_in setup db).facts)
      go (Ok v) it = facts_now setup db next run done it holdable
      go (Err e) it = tt

  pub content_on : OnOk given (IsInOrder done.testing.sources done.testing.rows) → run ≡ length (content_in setup db).reports + 1 → IsGiven setup (content_in setup db) done.testing
      → AreHoldable setup (facts_after done.facts (content_in setup db).facts) → OnOk result (content_in setup next ≡ with_run (content_in setup db) done)
  content_on ordered is gives holdable = subst (λ r. OnOk r (content_in setup next ≡ with_run (content_in setup db) done)) (sym same) (go given finishes ordered)
    where
      go : (r : Result T E) → OnOk r (FinishesRun (release_place setup) db next run done) → OnOk r (IsInOrder done.testing.sources done.testing.rows) → OnOk r (content_in setup next ≡ with_run (content_in setup db) done)
      go (Ok v) it order = content_after setup db next run done it is order.by_name order.by_key gives holdable
      go (Err e) it order = tt

-- a kept text leaves the facts, and so does a refusal
pub facts_kept : {T E : Type 0} (given : Result T E) (setup : Lists) (old new : Database) (sender number : ℕ) (text : List ℕ) → OnOk given (AddsLetter old.trees new.trees sender number text) → OnErr given (new ≡ old)
    → (content_in setup new.trees).facts ≡ (content_in setup old.trees).facts
facts_kept (Ok v) setup old new sender number text it err =
    ap (λ (r : Rows). facts_in (release_place setup) r.facts (new.trees 10)) it.put ∙ ap (λ (r : Rows). facts_in (release_place setup) (old.trees 8) r.delays) it.put
facts_kept (Err e) setup old new sender number text it err = ap (λ (d : Database). (content_in setup d.trees).facts) err

-- a kept text leaves the reports, and so does a refusal
pub reports_kept : {T E : Type 0} (given : Result T E) (setup : Lists) (old new : Database) (sender number : ℕ) (text : List ℕ) → OnOk given (AddsLetter old.trees new.trees sender number text) → OnErr given (new ≡ old)
    → (content_in setup new.trees).reports ≡ (content_in setup old.trees).reports
reports_kept (Ok v) setup old new sender number text it err =
    let office : new.trees 0 ≡ old.trees 0 = ap (λ (r : Rows). r.office) it.put in
    let runs : new.trees 3 ≡ old.trees 3 = ap (λ (r : Rows). r.runs) it.put in
    ap (λ rows. reports_to (run_map (new.trees 3)) (count_said (said_in rows))) office ∙ ap (λ rows. reports_to (run_map rows) (count_said (said_in (old.trees 0)))) runs
reports_kept (Err e) setup old new sender number text it err = ap (λ (d : Database). (content_in setup d.trees).reports) err
