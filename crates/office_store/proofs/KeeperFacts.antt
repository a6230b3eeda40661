-- What the calls of a keeper over tables leave of what it holds.
use Rattle.std.proofs.Common.{◌≡◌, ◌≢◌, ◌≤◌, ◌⊎◌, inl, inr, ℕ, length, Bool, Option, Some, None, IfSome, Result, Ok, Err, IfOk, OnOk, refl, sym, ap, subst, ◌∙◌, arith}
use Rattle.std.specs.Prelude.{◌↔◌, IsTrue}
use Rattle.std.specs.FinMap.{len}
use Rattle.sqlite.specs.Effect.{Database}
use Rattle.sqlite.specs.Held.{Held, state}
use Rattle.sqlite.specs.State.{State, HasCleanDisk}
use Rattle.sqlite.specs.Store.{Ghosts}
use Rattle.sqlite.specs.Tree.{Trees}
use Rattle.testing_rules_model.specs.Suite.{Suite}
use Rattle.office_mail.specs.Lists.{Lists}
use Rattle.office_store_keeper.specs.Keeping.{Counted, Keeps, OnlyReads}
use Rattle.office_store_keeper.specs.Provenance.{AreOwnTexts}
use Rattle.office_store_keeper.specs.declared.faults.KeepFault.{KeepFault}
use Rattle.office_store_keeper.specs.declared.faults.KeepFault.TheVariants.{Store}
use Rattle.office_store_keeper.specs.declared.faults.Cause.TheVariants.{BadRow}
use Rattle.office_store_tables.specs.TableContent.{content_in, count_said}
use Rattle.office_store_tables.specs.Legible.{IsLegible}
use Rattle.office_store_tables.specs.Reads.{LeavesStore}
use Rattle.office_store_tables.specs.Tables.{IsTrusted, kept_rows, run_map, said_in}
use Rattle.office_store_tables.specs.TableSteps.{Same}
use Rattle.office_store_tables.specs.steps.Tables.{Lasts}
use Rattle.office_store_tables.proofs.ReportFacts.{length_reports}
use Rattle.office_store.specs.TablesState.{IsLegibleStore, TablesState}

-- tables that a call left as they were stay legible
pub legible_same : (setup : Lists) (old new : State) → Same old new → IsLegible setup old.now.trees → IsLegible setup new.now.trees
legible_same setup old new same was = subst (λ (d : Database). IsLegible setup d.trees) (sym same.now) was

-- so does the store with its testing in memory
pub store_same : (setup : Lists) (old new : State) (in_memory : Option Suite) → Same old new → IsLegibleStore setup old.now.trees in_memory → IsLegibleStore setup new.now.trees in_memory
store_same setup old new in_memory same was = subst (λ (d : Database). IsLegibleStore setup d.trees in_memory) (sym same.now) was

-- and it was so before the call
pub store_before : (setup : Lists) (old new : State) (in_memory : Option Suite) → Same old new → IsLegibleStore setup new.now.trees in_memory → IsLegibleStore setup old.now.trees in_memory
store_before setup old new in_memory same is = subst (λ (d : Database). IsLegibleStore setup d.trees in_memory) same.now is

-- testing in memory is what the tables hold, where they hold the same testing as before
pub still_held : (in_memory : Option Suite) (old new : Suite) → new ≡ old → IfSome in_memory (λ testing. testing ≡ old) → IfSome in_memory (λ testing. testing ≡ new)
still_held in_memory old new same was = subst (λ (s : Suite). IfSome in_memory (λ testing. testing ≡ s)) (sym same) was

-- testing for the next run is what the tables hold, where it was read there and where it was in memory
pub next_is : {E : Type 0} (result given : Result Suite E) (setup : Lists) (old new : State) (in_memory : Option Suite) → result ≡ given → Same old new → IfSome in_memory (λ testing. testing ≡ (content_in setup old.now.trees).testing)
    → IfOk given (λ testing. (in_memory ≡ Some testing) ⊎ (testing ≡ (content_in setup new.now.trees).testing)) → IfOk result (λ testing. testing ≡ (content_in setup old.now.trees).testing)
next_is {E} result given setup old new in_memory is same held ok = subst (λ r. IfOk r (λ testing. testing ≡ (content_in setup old.now.trees).testing)) (sym is) (go given ok)
  where
    go : (r : Result Suite E) → IfOk r (λ testing. (in_memory ≡ Some testing) ⊎ (testing ≡ (content_in setup new.now.trees).testing)) → IfOk r (λ testing. testing ≡ (content_in setup old.now.trees).testing)
    go (Ok t) (inl had) = subst (λ (m : Option Suite). IfSome m (λ testing. testing ≡ (content_in setup old.now.trees).testing)) had held
    go (Ok t) (inr read) = read ∙ ap (λ (d : Database). (content_in setup d.trees).testing) same.now
    go (Err e) ok = tt

-- what is read in the tables afterwards stood there before
pub value_before : {T E : Type 0} (result given : Result T E) (P : Database → T → Type 0) (old new : State) → result ≡ given → Same old new → IfOk given (P new.now) → IfOk result (P old.now)
value_before result given P old new is same ok = subst (λ r. IfOk r (P old.now)) (sym is) (subst (λ (d : Database). IfOk given (P d)) same.now ok)

-- what is found of the tables stands for a store that has no testing in memory
pub whole_found : {E : Type 0} (result given : Result Bool E) (setup : Lists) (old new : State) (texts : ℕ) → result ≡ given → Same old new
    → IfOk given (λ whole. texts ≤ len (kept_rows (new.now.trees 1)) → (IsTrue whole ↔ (IsLegible setup new.now.trees × (len (kept_rows (new.now.trees 1)) ≡ texts))))
    → texts ≤ len (kept_rows (old.now.trees 1)) → IfOk result (λ whole. IsTrue whole ↔ (IsLegibleStore setup new.now.trees None × (len (kept_rows (old.now.trees 1)) ≡ texts)))
whole_found {E} result given setup old new texts is same ok low = subst (λ r. IfOk r (λ whole. IsTrue whole ↔ (IsLegibleStore setup new.now.trees None × (len (kept_rows (old.now.trees 1)) ≡ texts)))) (sym is) (go given ok)
  where
    go : (r : Result Bool E) → IfOk r (λ whole. texts ≤ len (kept_rows (new.now.trees 1)) → (IsTrue whole ↔ (IsLegible setup new.now.trees × (len (kept_rows (new.now.trees 1)) ≡ texts))))
        → IfOk r (λ whole. IsTrue whole ↔ (IsLegibleStore setup new.now.trees None × (len (kept_rows (old.now.trees 1)) ≡ texts)))
    go (Ok whole) it =
        let mail : len (kept_rows (new.now.trees 1)) ≡ len (kept_rows (old.now.trees 1)) = ap (λ (d : Database). len (kept_rows (d.trees 1))) same.now in
        let both = it (subst (λ n. texts ≤ n) (sym mail) low) in (
          λ so. let b = both.0 so in (record { tables = b.0; testing = tt }, sym mail ∙ b.1),
          λ b. both.1 (b.0.tables, mail ∙ b.1),
        )
    go (Err e) it = tt

-- as many runs are finished as have reports
pub count_is : (setup : Lists) (db : Trees) → count_said (said_in (db 0)) ≡ length (content_in setup db).reports
count_is setup db = sym (length_reports (run_map (db 3)) (count_said (said_in (db 0))))

-- a fault that is handed on isn't a bad row where the call's own isn't
pub never_bad : {T : Type 0} (result given : Result T KeepFault) → result ≡ given → given ≢ Err (Store BadRow) → result ≢ Err (Store BadRow)
never_bad result given is never bad = never (sym is ∙ bad)

-- what each call of a keeper over tables keeps
abbrev pub KeepsTables : {S T : Type 0} → Ghosts S → TablesState (Held S) → TablesState (Held S) → Result T KeepFault → Type 0
KeepsTables {S} store old new result = Keeps (λ (t : TablesState (Held S)). HasCleanDisk (state store t.conn)) (λ t. IsTrusted (state store t.conn)) (λ t. IsLegibleStore t.setup (state store t.conn).now.trees t.in_memory)
    (λ t. t.setup) (λ t. content_in t.setup (state store t.conn).now.trees) (λ t. t.refusals) (λ t. (state store t.conn).faults) old new result

-- what a call keeps that only reads
abbrev pub ReadsTables : {S T : Type 0} → Ghosts S → TablesState (Held S) → TablesState (Held S) → Result T KeepFault → Type 0
ReadsTables {S} store old new result = OnlyReads (λ (t : TablesState (Held S)). HasCleanDisk (state store t.conn)) (λ t. IsTrusted (state store t.conn)) (λ t. IsLegibleStore t.setup (state store t.conn).now.trees t.in_memory)
    (λ t. t.setup) (λ t. content_in t.setup (state store t.conn).now.trees) (λ t. t.refusals) (λ t. (state store t.conn).faults) old new result

-- a call on the connection, whose refusal the keeper counts
pub keeps_by : {S T : Type 0} (store : Ghosts S) {old v : TablesState (Held S)} (conn : Held S) (refusals : ℕ) (in_memory : Option Suite) (result given : Result T KeepFault) → old ≡ v → result ≡ given → Counted old.refusals refusals result
    → (IsTrusted (state store conn) → IsTrusted (state store old.conn)) → Lasts (state store old.conn) (state store conn) → (HasCleanDisk (state store conn) → IsTrusted (state store old.conn) → OnOk given (IsTrusted (state store conn)))
    → (IsTrusted (state store conn) → IsLegible old.setup (state store old.conn).now.trees → AreOwnTexts old.setup (kept_rows ((state store old.conn).now.trees 1)) → given ≢ Err (Store BadRow))
    → KeepsTables store v (record { conn = conn; setup = old.setup; refusals = refusals; in_memory = in_memory }) result
keeps_by store {old} conn refusals in_memory result given view is counted before lasts stays bad =
    subst (λ v. KeepsTables store v (record { conn = conn; setup = old.setup; refusals = refusals; in_memory = in_memory }) result) view (record {
      setup = refl;
      clean = λ now. omega (arith, lasts.endures.clean, now);
      faults = lasts.endures.counts;
      before = before;
      stays = λ clean trusted. subst (λ r. OnOk r (IsTrusted (state store conn))) (sym is) (stays clean trusted);
      shut = λ clean trusted. elim (lasts.endures.closes clean trusted.1) [
        | inl still ↦ inl (clean, still, lasts.limit ∙ trusted.2)
        | inr rose ↦ inr rose
      ];
      bad = λ trusted legible own. never_bad result given is (bad trusted legible.tables own);
      counted = counted;
    })

-- one that only reads the tables
pub reads_by : {S T : Type 0} (store : Ghosts S) {old v : TablesState (Held S)} (conn : Held S) (refusals : ℕ) (in_memory : Option Suite) (result given : Result T KeepFault) → old ≡ v → result ≡ given → Counted old.refusals refusals result
    → LeavesStore store old.conn conn given → (IsLegibleStore old.setup (state store conn).now.trees old.in_memory → IsLegibleStore old.setup (state store conn).now.trees in_memory)
    → (IsTrusted (state store conn) → IsLegible old.setup (state store conn).now.trees → AreOwnTexts old.setup (kept_rows ((state store conn).now.trees 1)) → given ≢ Err (Store BadRow))
    → ReadsTables store v (record { conn = conn; setup = old.setup; refusals = refusals; in_memory = in_memory }) result
reads_by store {old} conn refusals in_memory result given view is counted reads still bad =
    subst (λ v. ReadsTables store v (record { conn = conn; setup = old.setup; refusals = refusals; in_memory = in_memory }) result) view (record {
      keeps = keeps_by store conn refusals in_memory result given refl is counted reads.before reads.lasts reads.stays
          (λ trusted was own. let same = reads.same trusted in bad trusted (legible_same old.setup (state store old.conn) (state store conn) same was) (subst (λ (d : Database). AreOwnTexts old.setup (kept_rows (d.trees 1))) (sym same.now) own));
      same = λ trusted. ap (λ (d : Database). content_in old.setup d.trees) (reads.same trusted).now;
      legible = λ trusted was. still (store_same old.setup (state store old.conn) (state store conn) old.in_memory (reads.same trusted) was);
    })
