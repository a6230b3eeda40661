-- A finished run leaves the tables legible.
use Rattle.std.proofs.Common.{◌≡◌, ◌≤◌, ◌<◌, ◌+◌, ℕ, List, map, length, Bool, true, false, cond, nat_eq, Option, Some, None, IsSome, IfSome, IsUtf8, Result, Ok, Err, OnOk, OnErr, is_some, refl, sym, ap, subst, ◌∙◌, arith}
use Rattle.std.proofs.lemmas.Bool.Decides.{nat_tests}
use Rattle.std.proofs.lemmas.Cmp.{nat_cmp_total}
use Rattle.std.specs.Ordering.{nat_cmp, eq_by_cmp}
use Rattle.std.specs.FinMap.{get, len, nat_cmp-IsAntisymmetric, get-insert, get-from_entries}
use Rattle.sqlite.specs.Tree.{Trees}
use Rattle.sqlite.specs.Effect.{Database}
use Rattle.testing_rules_model.specs.steps.InOrder.{IsInOrder}
use Rattle.testing_rules_model.specs.Suite.{Suite}
use Rattle.testing_rules_model.specs.declared.suite.SourceIn.{SourceIn}
use Rattle.testing_rules_model.specs.declared.suite.RowIn.{RowIn}
use Rattle.testing_rules_model.proofs.Orders.{text_order}
use Rattle.office_mail.specs.Lists.{Lists}
use Rattle.office_mail.specs.Setup.{setup_in}
use Rattle.office_mail.specs.Kept.{Kept, Place}
use Rattle.office_store_keeper.specs.declared.values.Finished.{Finished}
use Rattle.office_store_keeper.specs.declared.values.Reports.{Reports}
use Rattle.office_store_tables.specs.declared.said.Said.{Said}
use Rattle.office_store_keeper.specs.Content.{reports_in}
use Rattle.office_store_keeper.specs.FactSet.{AreHoldable, facts_after}
use Rattle.office_store_keeper.specs.Provenance.{IsGiven}
use Rattle.office_store_tables.specs.Tables.{IsWhole, kept_rows, said_in, run_in, run_map}
use Rattle.office_store_tables.specs.Entries.{source_map, entry_map}
use Rattle.office_store_tables.specs.EntrySteps.{source_entry, row_entry}
use Rattle.office_store_tables.specs.steps.Finishing.{with_count, FinishesRun}
use Rattle.office_store_tables.specs.TableContent.{source_at, row_at, count_said, content_in, release_place}
use Rattle.office_store_tables.specs.Legible.{SaysOnce, AreReported, AreNamed, IsLegible}
use Rattle.office_store_tables.proofs.LetterFacts.{nat_is}
use Rattle.office_store_tables.proofs.SettingLemmas.{text_exact, row_order, row_exact}
use Rattle.office_store_tables.proofs.EntryMaps.{from_first}
use Rattle.office_store_tables.proofs.EntryValues.{has_map, each_has}
use Rattle.office_store_tables.proofs.ReportFacts.{length_reports}
use Rattle.office_store_tables.proofs.RunCounts.{reported_whole}
use Rattle.office_store_tables.proofs.Whole.{len_more}
use Rattle.office_store.specs.TablesState.{IsLegibleStore}
use Rattle.office_store.proofs.ContentFacts.{sources_named, rows_named, testing_after}
use Rattle.office_store_tables.proofs.FactMoves.{holdable_stands}

-- a run up to the new one that isn't the new one is an earlier one
earlier : (k run n : ℕ) → nat_eq run k ≡ false → k ≤ run → run ≡ n + 1 → k ≤ n
earlier k run n other within next = grind (arith, nat_tests)

same_value : {X : Type 0} {x y : X} → Some x ≡ Some y → x ≡ y
same_value e = cc

module _ (setup : Lists) (db next : Trees) (run : ℕ) (done : Finished) (it : FinishesRun (release_place setup) db next run done) (was : IsLegible setup db) where
  same_said : it.said ≡ was.office.said
  same_said = same_value (sym it.said_is ∙ was.office.is)

  abbrev says_now : run < 4_294_967_296 → SaysOnce (next 0)
  says_now fits = record {
    said = with_count run it.said;
    is = it.writes.says;
    once = it.writes.once (was.office.once, ap is_some was.office.is);
    schema = subst (λ (s : Said). s.schema < 4_294_967_296) (sym same_said) was.office.schema;
    finished = fits;
    setup = subst (λ (s : Said). IsUtf8 s.setup) (sym same_said) was.office.setup;
  }

  next_run : run ≡ length (content_in setup db).reports + 1 → run ≡ was.office.said.finished + 1
  next_run is = is ∙ ap (λ k. k + 1) (length_reports (run_map (db 3)) (count_said (said_in (db 0))) ∙ ap count_said was.office.is)

  run_at : (k : ℕ) → get (run_map (next 3)) k ≡ cond (eq_by_cmp nat_cmp k run) (Some (reports_in done)) (get (run_map (db 3)) k)
  run_at k = ap (λ m. get m k) it.writes.reported ∙ get-insert nat_cmp_total (run_map (db 3)) run (reports_in done) k

  reported_each : run ≡ was.office.said.finished + 1 → (k : ℕ) → 1 ≤ k → k ≤ run → IsSome (get (run_map (next 3)) k)
  reported_each is k low high = subst IsSome (sym (run_at k)) (go (eq_by_cmp nat_cmp k run) refl)
    where
      go : (b : Bool) → eq_by_cmp nat_cmp k run ≡ b → IsSome (cond b (Some (reports_in done)) (get (run_map (db 3)) k))
      go true same = refl
      go false other = was.runs.each k low (earlier k run was.office.said.finished (sym (nat_is k run) ∙ other) high is)

  reported_count : run ≡ was.office.said.finished + 1 → length (next 3) ≡ run
  reported_count is =
      let whole : len (run_map (next 3)) ≡ length (next 3) = it.writes.whole_runs (reported_whole (db 3) was.office.said.finished was.runs) in
      let grown : len (run_map (next 3)) ≡ len (run_map (db 3)) + 1 = ap len it.writes.reported ∙ len_more nat_cmp_total nat_cmp-IsAntisymmetric run_in (run_map (db 3)) run (reports_in done) it.writes.new in
      let old : len (run_map (db 3)) ≡ length (db 3) = reported_whole (db 3) was.office.said.finished was.runs in
      let count : length (db 3) ≡ was.office.said.finished = was.runs.count in
      omega (arith, is, whole, grown, old, count)

  reported_texts : IsUtf8 done.excuses → IsUtf8 done.updates → (k : ℕ) (reports : Reports) → get (run_map (next 3)) k ≡ Some reports → IsUtf8 reports.excuses × IsUtf8 reports.updates
  reported_texts excuses updates k reports found = go (eq_by_cmp nat_cmp k run) (sym (run_at k) ∙ found)
    where
      go : (b : Bool) → cond b (Some (reports_in done)) (get (run_map (db 3)) k) ≡ Some reports → IsUtf8 reports.excuses × IsUtf8 reports.updates
      go true is =
          let same : reports_in done ≡ reports = same_value is in
          (subst (λ (r : Reports). IsUtf8 r.excuses) same excuses, subst (λ (r : Reports). IsUtf8 r.updates) same updates)
      go false is = was.runs.texts k reports is

  reported_now : run ≡ length (content_in setup db).reports + 1 → IsUtf8 done.excuses → IsUtf8 done.updates → AreReported (next 3) run
  reported_now is excuses updates = record {
    each = reported_each (next_run is);
    count = reported_count (next_run is);
    texts = reported_texts excuses updates;
  }

  kept_still : kept_rows (db 1) ≡ kept_rows (next 1)
  kept_still = ap kept_rows (sym it.writes.mail)

  source_named : IsGiven setup (content_in setup db) done.testing → (name : List ℕ) (p : Place) → get (source_map (next 4)) name ≡ Some p → IsSome (source_at setup (kept_rows (next 1)) (name, p))
  source_named given name p found =
      let there = from_first text_order text_exact (map source_entry done.testing.sources) name p (sym (ap (λ m. get m name) it.writes.sources ∙ get-from_entries text_order (map source_entry done.testing.sources) name) ∙ found) in
      let s = has_map source_entry done.testing.sources (name, p) there in
      let is : source_at setup (kept_rows (db 1)) (source_entry s.0) ≡ Some s.0 =
      each_has (λ (x : SourceIn). source_at setup (kept_rows (db 1)) (source_entry x) ≡ Some x) done.testing.sources s.0 (sources_named setup db next run done it given) s.1 in
      subst (λ (k : Kept). IsSome (source_at setup k (name, p))) kept_still (ap is_some (ap (source_at setup (kept_rows (db 1))) s.2 ∙ is))

  row_named : IsGiven setup (content_in setup db) done.testing → (key : ℕ × List ℕ) (value : Place × ℕ) → get (entry_map (next 6)) key ≡ Some value → IsSome (row_at setup (kept_rows (next 1)) (key, value))
  row_named given key value found =
      let there = from_first row_order row_exact (map row_entry done.testing.rows) key value (sym (ap (λ m. get m key) it.writes.rows ∙ get-from_entries row_order (map row_entry done.testing.rows) key) ∙ found) in
      let r = has_map row_entry done.testing.rows (key, value) there in
      let is : row_at setup (kept_rows (db 1)) (row_entry r.0) ≡ Some r.0 =
      each_has (λ (x : RowIn). row_at setup (kept_rows (db 1)) (row_entry x) ≡ Some x) done.testing.rows r.0 (rows_named setup db next run done it given) r.1 in
      subst (λ (k : Kept). IsSome (row_at setup k (key, value))) kept_still (ap is_some (ap (row_at setup (kept_rows (db 1))) r.2 ∙ is))

  named_now : IsGiven setup (content_in setup db) done.testing → AreNamed setup next
  named_now given = record {
    sources = it.writes.whole_sources was.testing.sources;
    source = source_named given;
    rows = it.writes.whole_rows was.testing.rows;
    row = row_named given;
  }

-- the tables stay legible
pub finish_legible : (setup : Lists) (db next : Trees) (run : ℕ) (done : Finished) → FinishesRun (release_place setup) db next run done → run < 4_294_967_296 → IsUtf8 done.excuses → IsUtf8 done.updates → run ≡ length (content_in setup db).reports + 1
    → IsGiven setup (content_in setup db) done.testing → AreHoldable setup (facts_after done.facts (content_in setup db).facts) → IsLegible setup db → IsLegible setup next
finish_legible setup db next run done it fits excuses updates is given holdable was = record {
  office = says_now setup db next run done it was fits;
  schema = ap (λ (s : Said). s.schema) (same_said setup db next run done it was) ∙ was.schema;
  setup_is = ap (λ (s : Said). setup_in s.setup) (same_said setup db next run done it was) ∙ was.setup_is;
  mail = subst (λ rows. IsWhole (kept_rows rows) rows) (sym it.writes.mail) was.mail;
  runs = reported_now setup db next run done it was is excuses updates;
  testing = named_now setup db next run done it was given;
  facts = (it.writes.facts (holdable_stands setup done.facts (content_in setup db).facts holdable)).reads was.facts;
}

-- the same of a call that may have failed
pub finish_legible_on : {T E : Type 0} (given : Result T E) (setup : Lists) (old new : Database) (run : ℕ) (done : Finished) → OnOk given (FinishesRun (release_place setup) old.trees new.trees run done) → OnErr given (new ≡ old) → OnOk given (IsUtf8 done.excuses × IsUtf8 done.updates)
    → run < 4_294_967_296 → run ≡ length (content_in setup old.trees).reports + 1 → IsGiven setup (content_in setup old.trees) done.testing → AreHoldable setup (facts_after done.facts (content_in setup old.trees).facts) → IsLegible setup old.trees → IsLegible setup new.trees
finish_legible_on (Ok v) setup old new run done it err texts fits is gives holdable was = finish_legible setup old.trees new.trees run done it fits texts.0 texts.1 is gives holdable was
finish_legible_on (Err e) setup old new run done it err texts fits is gives holdable was = subst (λ (d : Database). IsLegible setup d.trees) (sym err) was

-- the same of a store, which then has in memory the testing that the run left, or none where the call failed
pub finish_store_on : {T E : Type 0} (given : Result T E) (setup : Lists) (old new : Database) (run : ℕ) (done : Finished) (in_memory : Option Suite) → OnOk given (FinishesRun (release_place setup) old.trees new.trees run done) → OnErr given (new ≡ old)
    → OnOk given (IsUtf8 done.excuses × IsUtf8 done.updates) → OnOk given (IsInOrder done.testing.sources done.testing.rows) → OnOk given (in_memory ≡ Some done.testing) → OnErr given (in_memory ≡ None) → run < 4_294_967_296 → run ≡ length (content_in setup old.trees).reports + 1
    → IsGiven setup (content_in setup old.trees) done.testing → AreHoldable setup (facts_after done.facts (content_in setup old.trees).facts) → IsLegible setup old.trees → IsLegibleStore setup new.trees in_memory
finish_store_on (Ok v) setup old new run done in_memory it err texts order left none fits is gives holdable was = record {
  tables = finish_legible setup old.trees new.trees run done it fits texts.0 texts.1 is gives holdable was;
  testing = subst (λ (m : Option Suite). IfSome m (λ testing. testing ≡ (content_in setup new.trees).testing)) (sym left) (sym (testing_after setup old.trees new.trees run done it order.by_name order.by_key gives));
}
finish_store_on (Err e) setup old new run done in_memory it err texts order left none fits is gives holdable was = record {
  tables = subst (λ (d : Database). IsLegible setup d.trees) (sym err) was;
  testing = subst (λ (m : Option Suite). IfSome m (λ testing. testing ≡ (content_in setup new.trees).testing)) (sym none) tt;
}
