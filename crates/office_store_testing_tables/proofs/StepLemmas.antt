-- What a statement within a transaction leaves.
use Rattle.std.proofs.Common.{◌≡◌, ◌≤◌, inl, inr, ℕ, List, false, Ok, Err, Result, IfOk, OnOk, IsTrue, refl, sym, ◌∙◌, arith}
use Rattle.std.proofs.lemmas.Bool.{cases_Bool}
use Rattle.sqlite_trees.specs.View.{doubt}
use Rattle.sqlite.specs.Order.{Row}
use Rattle.sqlite.specs.declared.error.Error.{Error}
use Rattle.sqlite.specs.State.{State, HasCleanDisk, Executes, ExecutesInside}
use Rattle.office_store_testing_tables.specs.Layout.{office_schema}
use Rattle.office_store_testing_tables.specs.Tables.{IsTrusted}
use Rattle.office_store_testing_tables.specs.steps.TableSteps.{IsInside, WentOn}

-- what `execute` of a transaction says of a call
pub record Stepped (sql : List ℕ) (params : Row) (old new : State) (result : Result ℕ Error) : Type 0 where
  pub clean : doubt old.is_clean ≤ doubt new.is_clean
  pub limit : new.step_limit ≡ old.step_limit
  pub ended : old.in_transaction ≡ false → (e : Error) × (result ≡ Err e)
  pub runs : HasCleanDisk new → IsTrue old.in_transaction → ExecutesInside 0 sql params old new result

module _ (sql : List ℕ) (params : Row) (old new : State) where
  open_before : (result : Result ℕ Error) → IsTrue new.is_open → ExecutesInside 0 sql params old new result → IsTrue old.is_open
  open_before (Ok count) now h = h.1.was_open
  open_before (Err e) now (inl (ran, inl same)) = same.0.was_open
  open_before (Err e) now (inl (ran, inr undone)) = undone.was_open now
  open_before (Err e) now (inr h) = h.2.0.was_open

  pub step_before : (result : Result ℕ Error) → Stepped sql params old new result → IsTrue old.in_transaction → IsTrusted new → IsTrusted old
  step_before result h begun trusted = (omega (arith, h.clean, trusted.0), open_before result trusted.1 (h.runs trusted.0 begun), sym h.limit ∙ trusted.2)

  pub step_on : (count : ℕ) → Stepped sql params old new (Ok count) → IsTrue old.in_transaction → IsTrusted new → Executes sql params old new (Ok count) × (new.committed ≡ old.committed) × IsTrue new.in_transaction
  step_on count h begun trusted = let ran = h.runs trusted.0 begun in (ran.0, ran.1.committed_is, rw ran.1.mode refl)

  pub step_err : (e : Error) → Stepped sql params old new (Err e) → IsTrue old.in_transaction → IsTrusted new → new.committed ≡ old.committed
  step_err e h begun trusted = kept (h.runs trusted.0 begun)
    where
      kept : ExecutesInside 0 sql params old new (Err e) → new.committed ≡ old.committed
      kept (inl (ran, inl same)) = same.0.committed_is
      kept (inl (ran, inr undone)) = (undone.undone trusted.1).1
      kept (inr h) = h.2.0.committed_is

  pub begun_ok : (count : ℕ) → Stepped sql params old new (Ok count) → IsTrue old.in_transaction
  begun_ok count h = elim (cases_Bool old.in_transaction) [
    | inl begun ↦ begun
    | inr idle ↦ absurd (let e = (h.ended idle).1 in cc)
  ]

  went_well : (P : Type 0) (count : ℕ) → Stepped sql params old new (Ok count) → IsTrusted new → (IsTrusted old → IsInside old)
      → (IsInside old → Executes sql params old new (Ok count) → (new.now.schema ≡ office_schema) × P) → WentOn old new × P
  went_well P count h trusted inside gives =
      let begun = begun_ok count h in
      let was = inside (step_before (Ok count) h begun trusted) in
      let ran = step_on count h begun trusted in
      let made = gives was ran.0 in
      (record { inside = record { schema = made.0; begun = ran.2 }; committed = ran.1 }, made.1)

  pub step_counts_on : (P : ℕ → Type 0) (result : Result ℕ Error) → Stepped sql params old new result → IsTrusted new → (IsTrusted old → IsInside old)
      → ((count : ℕ) → IsInside old → Executes sql params old new (Ok count) → (new.now.schema ≡ office_schema) × P count) → OnOk result (WentOn old new)
  step_counts_on P (Ok count) h trusted inside gives = (went_well (P count) count h trusted inside (gives count)).0
  step_counts_on P (Err e) h trusted inside gives = tt

  pub step_counts : (P : ℕ → Type 0) (result : Result ℕ Error) → Stepped sql params old new result → IsTrusted new → (IsTrusted old → IsInside old)
      → ((count : ℕ) → IsInside old → Executes sql params old new (Ok count) → (new.now.schema ≡ office_schema) × P count) → IfOk result P
  step_counts P (Ok count) h trusted inside gives = (went_well (P count) count h trusted inside (gives count)).1
  step_counts P (Err e) h trusted inside gives = tt

  pub step_open : (result : Result ℕ Error) → Stepped sql params old new result → HasCleanDisk new → IsTrusted old → OnOk result (IsTrusted new)
  step_open (Ok count) h clean trusted = (clean, (h.runs clean (begun_ok count h)).1.is_open, h.limit ∙ trusted.2)
  step_open (Err e) h clean trusted = tt
