-- What a query within a transaction leaves.
use Rattle.std.proofs.Common.{◌≡◌, ◌≤◌, ◌⊎◌, inl, inr, ℕ, List, Ok, Err, Result, IfOk, IfErr, OnOk, OnErr, IsTrue, sym, ap, subst, ◌∙◌, arith}
use Rattle.sqlite_trees.specs.View.{doubt}
use Rattle.sqlite.specs.Order.{Row}
use Rattle.sqlite.specs.declared.error.Error.{Error}
use Rattle.sqlite.specs.Effect.{Database}
use Rattle.sqlite.specs.Listing.{understood}
use Rattle.sqlite.specs.State.{State, HasCleanDisk, FailsToQuery, IsTooLate, Shown}
use Rattle.sqlite.proofs.Callers.{IsPlain}
use Rattle.office_store_testing_tables.specs.Layout.{office_schema}
use Rattle.office_store_testing_tables.specs.Tables.{IsTrusted}
use Rattle.office_store_testing_tables.specs.steps.TableSteps.{IsInside, WentOn}
use Rattle.office_store_testing_tables.proofs.StateLemmas.{Stays, query_stays, stays_open, shown_was_open, shown_is_open, shown_unchanged}

-- what `query_all` of a transaction says of a call
pub record AskedInside {R : Type 0} (items : R → List Row) (sql : List ℕ) (params : Row) (old new : State) (result : Result R Error) : Type 0 where
  pub clean : doubt old.is_clean ≤ doubt new.is_clean
  pub limit : new.step_limit ≡ old.step_limit
  pub ok : HasCleanDisk new → IfOk result (λ rows. Shown sql params old new (items rows))
  pub err : HasCleanDisk new → IfErr result (λ e. FailsToQuery sql params old new e ⊎ IsTooLate sql params old new e)

module _ {R : Type 0} (items : R → List Row) (sql : List ℕ) (params : Row) (old new : State) where
  failed_stays : (e : Error) → FailsToQuery sql params old new e ⊎ IsTooLate sql params old new e → Stays old new
  failed_stays e (inl h) = query_stays old new sql params e h
  failed_stays e (inr h) = inl h.5

  open_before : (result : Result R Error) → IsTrue new.is_open → IfOk result (λ rows. Shown sql params old new (items rows)) → IfErr result (λ e. FailsToQuery sql params old new e ⊎ IsTooLate sql params old new e) → IsTrue old.is_open
  open_before (Ok rows) now ok err = shown_was_open old new sql params (items rows) ok
  open_before (Err e) now ok err = stays_open old new now (failed_stays e err)

  pub inside_before : (result : Result R Error) → AskedInside items sql params old new result → IsTrusted new → IsTrusted old
  inside_before result asked trusted = (omega (arith, asked.clean, trusted.0), open_before result trusted.1 (asked.ok trusted.0) (asked.err trusted.0), sym asked.limit ∙ trusted.2)

  module _ (plain : IsPlain (understood office_schema sql)) (inside : IsTrusted old → IsInside old) where
    pub inside_same : (result : Result R Error) → AskedInside items sql params old new result → IsTrusted new → OnOk result (new.now ≡ old.now)
    inside_same (Ok rows) asked trusted = (shown_unchanged old new sql params (items rows) (inside (inside_before (Ok rows) asked trusted)).schema plain (asked.ok trusted.0)).0.now_is
    inside_same (Err e) asked trusted = tt

    pub inside_on : (result : Result R Error) → AskedInside items sql params old new result → IsTrusted new → OnOk result (WentOn old new)
    inside_on (Ok rows) asked trusted =
        let was = inside (inside_before (Ok rows) asked trusted) in
        let still = (shown_unchanged old new sql params (items rows) was.schema plain (asked.ok trusted.0)).0 in
        record { inside = record { schema = ap (λ (d : Database). d.schema) still.now_is ∙ was.schema; begun = subst IsTrue (sym still.mode) was.begun }; committed = still.committed_is }
    inside_on (Err e) asked trusted = tt

    pub inside_rows : (P : List Row → Type 0) (result : Result R Error) → AskedInside items sql params old new result → IsTrusted new → ((rows : List Row) → old.now.schema ≡ office_schema → Shown sql params old new rows → P rows) → IfOk result (λ rows. P (items rows))
    inside_rows P (Ok rows) asked trusted gives = gives (items rows) (inside (inside_before (Ok rows) asked trusted)).schema (asked.ok trusted.0)
    inside_rows P (Err e) asked trusted gives = tt

  kept : Stays old new → IsTrue new.is_open → new.committed ≡ old.committed
  kept (inl h) now = h.0.committed_is
  kept (inr h) now = (h.undone now).1

  pub inside_err : (result : Result R Error) → AskedInside items sql params old new result → IsTrusted new → OnErr result (new.committed ≡ old.committed)
  inside_err (Ok rows) asked trusted = tt
  inside_err (Err e) asked trusted = kept (failed_stays e (asked.err trusted.0)) trusted.1

  pub inside_open : (result : Result R Error) → AskedInside items sql params old new result → HasCleanDisk new → IsTrusted old → OnOk result (IsTrusted new)
  inside_open (Ok rows) asked clean trusted = (clean, shown_is_open old new sql params (items rows) (asked.ok clean), asked.limit ∙ trusted.2)
  inside_open (Err e) asked clean trusted = tt
