-- What a statement leaves of a connection that is ours.
use Rattle.std.proofs.Common.{◌≡◌, ◌⊎◌, inl, inr, ℕ, List, Some, None, Ok, Err, Result, IsTrue, refl, sym, ap, subst, ◌∙◌, arith}
use Rattle.std.proofs.Common.{◌≤◌, IfOk, IfErr, OnOk}
use Rattle.sqlite_trees.specs.View.{doubt}
use Rattle.sqlite.specs.Order.{Row}
use Rattle.sqlite.specs.declared.error.Error.{Error}
use Rattle.sqlite.specs.Effect.{Database}
use Rattle.sqlite.specs.Listing.{understood}
use Rattle.sqlite_resolve.specs.declared.compiled.Compiled.{Compiled}
use Rattle.sqlite.specs.State.{State, HasCleanDisk, IsUnchanged, IsRolledBack, IsNotRun, RunsCommand, FailsToShow, FailsToQuery, ShowsRows, Shown, Survives}
use Rattle.sqlite.specs.Clock.{timed}
use Rattle.sqlite.proofs.Callers.{IsPlain}
use Rattle.office_store_testing_tables.specs.Layout.{office_schema}
use Rattle.office_store_testing_tables.specs.Tables.{IsTrusted, IsOurs, Endures}
use Rattle.office_store_testing_tables.specs.steps.Tables.{Lasts}
use Rattle.office_store_testing_tables.specs.steps.TableSteps.{Same}
use Rattle.office_mail.specs.Counts.{HasRisen}
use Rattle.sqlite_trees.specs.Tree.{Trees}

-- the database stands as it was, or as the last commit left it
abbrev pub Stays : State → State → Type 0
Stays old new = IsUnchanged old new ⊎ IsRolledBack old new

pub not_run_stays : (old new : State) (sql : List ℕ) (params : Row) (e : Error) → IsNotRun old new sql params e → Stays old new
unfolding IsNotRun
not_run_stays old new sql params e (inl h) = inl h.1
not_run_stays old new sql params e (inr h) = inr h.3

pub refused_stays : (old new : State) (sql : List ℕ) (c : Compiled) (params : Row) (e : Error) → RunsCommand old new sql c params (Err e) → Stays old new
refused_stays old new sql c params e (inl h) = inl h.1
refused_stays old new sql c params e (inr h) = inr h.3

unshown_stays : (old new : State) (sql : List ℕ) (c : Compiled) (params : Row) (e : Error) (r : _) → FailsToShow old new sql c params e r → Stays old new
unshown_stays old new sql c params e None h = inl h.3
unshown_stays old new sql c params e (Some what) h = refused_stays old new sql c params e h

pub query_stays : (old new : State) (sql : List ℕ) (params : Row) (e : Error) → FailsToQuery sql params old new e → Stays old new
unfolding FailsToQuery
query_stays old new sql params e (inl h) = not_run_stays old new sql params e h
query_stays old new sql params e (inr h) = unshown_stays old new sql h.0 _ e h.0.returning h.2

shown_open : (old new : State) (sql : List ℕ) (c : Compiled) (params : Row) (rows : List Row) (r : _) → ShowsRows old new sql c params rows r → IsTrue old.is_open
shown_open old new sql c params rows None h = h.3.0.was_open
shown_open old new sql c params rows (Some what) h = h.1.shown.was_open

pub shown_was_open : (old new : State) (sql : List ℕ) (params : Row) (rows : List Row) → Shown sql params old new rows → IsTrue old.is_open
unfolding Shown
shown_was_open old new sql params rows h = shown_open old new sql h.0 _ rows h.0.returning h.2

pub shown_unchanged : (old new : State) (sql : List ℕ) (params : Row) (rows : List Row) → old.now.schema ≡ office_schema → IsPlain (understood office_schema sql) → Shown sql params old new rows → IsUnchanged old new
unfolding Shown
shown_unchanged old new sql params rows has plain h =
    let known = sym h.1.is ∙ ap (λ s. understood s sql) has in
    let bare = subst IsPlain (sym known) plain in
    (subst (ShowsRows old new sql h.0 (timed params h.0.formats h.1.now) rows) bare.0 h.2).3

pub stays_open : (old new : State) → IsTrue new.is_open → Stays old new → IsTrue old.is_open
stays_open old new now (inl h) = h.0.was_open
stays_open old new now (inr h) = h.was_open now

pub stays_same : (old new : State) → IsTrue new.is_open → IsOurs old → Stays old new → Same old new
stays_same old new now ours (inl h) = record {
  ours = record { schema = ap (λ (d : Database). d.schema) h.0.now_is ∙ ours.schema; settled = h.0.now_is ∙ ours.settled ∙ sym h.0.committed_is; autocommit = h.0.mode ∙ ours.autocommit };
  now = h.0.now_is;
}
stays_same old new now ours (inr h) =
    let undone = h.undone now in
    let same : new.now ≡ old.now = undone.0 ∙ sym ours.settled in
    record { ours = record { schema = ap (λ (d : Database). d.schema) same ∙ ours.schema; settled = undone.0 ∙ sym undone.1; autocommit = h.autocommit }; now = same }

shown_stays_open : (old new : State) (sql : List ℕ) (c : Compiled) (params : Row) (rows : List Row) (r : _) → ShowsRows old new sql c params rows r → IsTrue new.is_open
shown_stays_open old new sql c params rows None h = h.3.0.is_open
shown_stays_open old new sql c params rows (Some what) h = h.1.shown.is_open

pub shown_is_open : (old new : State) (sql : List ℕ) (params : Row) (rows : List Row) → Shown sql params old new rows → IsTrue new.is_open
unfolding Shown
shown_is_open old new sql params rows h = shown_stays_open old new sql h.0 _ rows h.0.returning h.2

-- what `query_all` says of a call
pub record Asked {R : Type 0} (items : R → List Row) (sql : List ℕ) (params : Row) (old new : State) (result : Result R Error) : Type 0 where
  pub clean : doubt old.is_clean ≤ doubt new.is_clean
  pub limit : new.step_limit ≡ old.step_limit
  pub ok : HasCleanDisk new → IfOk result (λ rows. Shown sql params old new (items rows))
  pub err : HasCleanDisk new → IfErr result (FailsToQuery sql params old new)

module _ {R : Type 0} (items : R → List Row) (sql : List ℕ) (params : Row) (old new : State) where
  open_before : (result : Result R Error) → IsTrue new.is_open → IfOk result (λ rows. Shown sql params old new (items rows)) → IfErr result (FailsToQuery sql params old new) → IsTrue old.is_open
  open_before (Ok rows) now ok err = shown_was_open old new sql params (items rows) ok
  open_before (Err e) now ok err = stays_open old new now (query_stays old new sql params e err)

  pub asked_before : (result : Result R Error) → Asked items sql params old new result → IsTrusted new → IsTrusted old
  asked_before result asked trusted = (omega (arith, asked.clean, trusted.0), open_before result trusted.1 (asked.ok trusted.0) (asked.err trusted.0), sym asked.limit ∙ trusted.2)

  same_after : (result : Result R Error) → IsTrue new.is_open → IsOurs old → IsPlain (understood office_schema sql) → IfOk result (λ rows. Shown sql params old new (items rows)) → IfErr result (FailsToQuery sql params old new) → Same old new
  same_after (Ok rows) now ours plain ok err = stays_same old new now ours (inl (shown_unchanged old new sql params (items rows) ours.schema plain ok))
  same_after (Err e) now ours plain ok err = stays_same old new now ours (query_stays old new sql params e err)

  pub asked_same : (result : Result R Error) → Asked items sql params old new result → IsPlain (understood office_schema sql) → IsOurs old → IsTrusted new → Same old new
  asked_same result asked plain ours trusted = same_after result trusted.1 ours plain (asked.ok trusted.0) (asked.err trusted.0)

  pub asked_rows : (P : List Row → Type 0) (result : Result R Error) → Asked items sql params old new result → IsTrusted new → ((rows : List Row) → Shown sql params old new rows → P rows) → IfOk result (λ rows. P (items rows))
  asked_rows P (Ok rows) asked trusted gives = gives (items rows) (asked.ok trusted.0)
  asked_rows P (Err e) asked trusted gives = tt

  pub asked_open : (result : Result R Error) → Asked items sql params old new result → HasCleanDisk new → IsTrusted old → OnOk result (IsTrusted new)
  asked_open (Ok rows) asked clean trusted = (clean, shown_is_open old new sql params (items rows) (asked.ok clean), asked.limit ∙ trusted.2)
  asked_open (Err e) asked clean trusted = tt

-- ---- what lasts over several calls

pub lasts_survived : {C : Trees → Type 0} (old new : State) → Survives old new C → Lasts old new
lasts_survived old new it = record { endures = record { clean = it.clean; counts = it.counts; closes = it.closes }; limit = it.limit }

pub lasts_same : (s : State) → Lasts s s
lasts_same s = record { endures = record { clean = omega arith; counts = omega arith; closes = λ clean is_open. inl is_open }; limit = refl }

risen_later : (a b c : ℕ) → HasRisen a b → b ≤ c → HasRisen a c
risen_later a b c h up = omega (arith, h, up)

risen_after : (a b c : ℕ) → a ≤ b → HasRisen b c → HasRisen a c
risen_after a b c up h = omega (arith, h, up)

pub endures_then : (a b c : State) → Endures a b → Endures b c → Endures a c
endures_then a b c first second = record {
  clean = omega (arith, first.clean, second.clean);
  counts = omega (arith, first.counts, second.counts);
  closes = λ clean is_open. elim (first.closes (omega (arith, clean, second.clean)) is_open) [
    | inl still ↦ elim (second.closes clean still) [
      | inl still ↦ inl still
      | inr risen ↦ inr (risen_after a.faults b.faults c.faults first.counts risen)
    ]
    | inr risen ↦ inr (risen_later a.faults b.faults c.faults risen second.counts)
  ];
}

pub lasts_then : (a b c : State) → Lasts a b → Lasts b c → Lasts a c
lasts_then a b c first second = record { endures = endures_then a b c first.endures second.endures; limit = second.limit ∙ first.limit }

-- a call leaves the connection trusted, or a fault of the disk was counted
pub lasts_shut : (old new : State) → Lasts old new → HasCleanDisk new → IsTrusted old → IsTrusted new ⊎ HasRisen old.faults new.faults
lasts_shut old new lasts clean trusted = elim (lasts.endures.closes clean trusted.1) [
  | inl still ↦ inl (clean, still, lasts.limit ∙ trusted.2)
  | inr risen ↦ inr risen
]

-- the disk was clean before, where it is after
pub clean_before : (old new : State) → Lasts old new → HasCleanDisk new → HasCleanDisk old
clean_before old new lasts clean = omega (arith, lasts.endures.clean, clean)
