-- What steps within a transaction leave, one after the other.
use Rattle.std.proofs.Common.{◌≡◌, ◌∙◌, ℕ, List, Bool, true, false, inl, inr, IsTrue, OnErr, Result, Ok, Err, IsErr, refl, sym, subst, true≢false}
use Rattle.std.proofs.lemmas.Bool.{cases_Bool}
use Rattle.std.specs.Borrow.{MutBor}
use Rattle.sqlite_trees.specs.declared.store.Store.{Ghosts}
use Rattle.sqlite.specs.Order.{Row}
use Rattle.sqlite.specs.declared.error.Error.{Error}
use Rattle.sqlite.specs.Held.{Held, state}
use Rattle.sqlite.specs.Listing.{understood}
use Rattle.sqlite.specs.State.{State, Executes, Shown}
use Rattle.sqlite.specs.Tree.{Trees}
use Rattle.sqlite.proofs.Callers.{IsPlain}
use Rattle.office_store_keeper.specs.declared.faults.KeepFault.{KeepFault}
use Rattle.office_store_testing_tables.specs.Layout.{office_schema}
use Rattle.office_store_testing_tables.specs.Tables.{IsTrusted}
use Rattle.office_store_testing_tables.specs.steps.Tables.{Lasts}
use Rattle.office_store_testing_tables.specs.steps.TableSteps.{IsInside}
use Rattle.office_store_testing_tables.specs.steps.Faults.{NeverBad}
use Rattle.office_store_testing_tables.specs.steps.StepsWithin.{StepsWithin, BeginsInside, Performs, PerformsNeverBad, Looks}
use Rattle.office_store_testing_tables.proofs.StateLemmas.{lasts_same, lasts_then, clean_before}
use Rattle.office_store_testing_tables.proofs.StepLemmas.{Stepped, step_before, step_open, step_counts_on, step_counts, step_err}
use Rattle.office_store_testing_tables.proofs.InsideLemmas.{AskedInside, inside_before, inside_open, inside_on, inside_err, inside_same, inside_rows}

-- the steps so far went well
abbrev pub WentWithin : {S : Type 0} → Ghosts S → MutBor (Held S) → MutBor (Held S) → Type 0
WentWithin store old new = StepsWithin {T = Bool} {E = Error} store old new (Ok true)

pub committed_stays : (sql : List ℕ) (params : Row) (old new : State) (result : Result ℕ Error) → Stepped sql params old new result → IsTrue old.in_transaction → IsTrusted new → OnErr result (new.committed ≡ old.committed)
committed_stays sql params old new (Ok count) h begun trusted = tt
committed_stays sql params old new (Err e) h begun trusted = step_err sql params old new e h begun trusted

module _ {S : Type 0} {store : Ghosts S} where
  -- nothing was done yet
  pub none_within : {T E : Type 0} (old : MutBor (Held S)) (x : T) → BeginsInside store old → StepsWithin {E = E} store old old (Ok x)
  none_within old x inside = record {
    same_reference = refl;
    before = λ trusted. trusted;
    lasts = lasts_same _;
    stays = λ clean trusted. trusted;
    on = λ trusted. record { inside = inside trusted; committed = refl };
    err = λ _. tt;
  }

  -- what a step left is left, whatever is made of its result
  pub kept_within : {T U E F : Type 0} {old new : MutBor (Held S)} {x : T} (result : Result U F) → StepsWithin {E = E} store old new (Ok x) → StepsWithin store old new result
  kept_within (Ok y) step = record { same_reference = step.same_reference; before = step.before; lasts = step.lasts; stays = step.stays; on = step.on; err = λ _. tt }
  kept_within (Err e) step = record { same_reference = step.same_reference; before = step.before; lasts = step.lasts; stays = λ _ _. tt; on = λ _. tt; err = λ trusted. (step.on trusted).committed }

  -- a step's fault is passed on
  pub failed_within : {T U E F : Type 0} {old new : MutBor (Held S)} {e : E} (result : Result U F) → IsErr result → StepsWithin {T = T} store old new (Err e) → StepsWithin store old new result
  failed_within (Ok y) is step = absurd (true≢false (sym is))
  failed_within (Err f) is step = record { same_reference = step.same_reference; before = step.before; lasts = step.lasts; stays = λ _ _. tt; on = λ _. tt; err = step.err }

  -- a step after one that went well
  pub then_within : {T U E F : Type 0} {old mid new : MutBor (Held S)} {x : T} (result : Result U F) → StepsWithin {E = E} store old mid (Ok x) → StepsWithin store mid new result → StepsWithin store old new result
  then_within (Ok y) first second = record {
    same_reference = second.same_reference ∙ first.same_reference;
    before = λ trusted. first.before (second.before trusted);
    lasts = lasts_then _ _ _ first.lasts second.lasts;
    stays = λ clean trusted. second.stays clean (first.stays (clean_before _ _ second.lasts clean) trusted);
    on = λ trusted. record { inside = (second.on trusted).inside; committed = (second.on trusted).committed ∙ (first.on (second.before trusted)).committed };
    err = λ _. tt;
  }
  then_within (Err e) first second = record {
    same_reference = second.same_reference ∙ first.same_reference;
    before = λ trusted. first.before (second.before trusted);
    lasts = lasts_then _ _ _ first.lasts second.lasts;
    stays = λ _ _. tt;
    on = λ _. tt;
    err = λ trusted. second.err trusted ∙ (first.on (second.before trusted)).committed;
  }

  -- nothing was done, whatever comes of it
  pub idle_within : {U F : Type 0} {old : MutBor (Held S)} (result : Result U F) → BeginsInside store old → StepsWithin store old old result
  idle_within {old = old} result inside = kept_within result (none_within {T = Bool} {E = Error} old true inside)

  -- what a failed call leaves is all that it does
  pub failed_does : {U F : Type 0} {old new : MutBor (Held S)} {made : Trees → Trees → U → Type 0} (result : Result U F) → IsErr result → StepsWithin store old new result → Performs store old new result made
  failed_does (Ok y) is steps = absurd (true≢false (sym is))
  failed_does (Err f) is steps = record { steps = steps; yields = λ _. tt }

  pub failed_never_bad : {U : Type 0} {old new : MutBor (Held S)} {made : Trees → Trees → U → Type 0} (result : Result U KeepFault) → IsErr result → NeverBad result → StepsWithin store old new result → PerformsNeverBad store old new result made
  failed_never_bad (Ok y) is bad steps = absurd (true≢false (sym is))
  failed_never_bad (Err f) is bad steps = record { steps = steps; yields = λ _. tt; bad = bad }

  pub failed_looks : {U F : Type 0} {old new : MutBor (Held S)} {shown : Trees → U → Type 0} (result : Result U F) → IsErr result → StepsWithin store old new result → Looks store old new result shown
  failed_looks (Ok y) is steps = absurd (true≢false (sym is))
  failed_looks (Err f) is steps = record { steps = steps; same = λ _. tt; yields = λ _. tt }

  -- what follows from what a step makes is made, too
  pub makes_also : {U : Type 0} {old new : MutBor (Held S)} {made also : Trees → Trees → U → Type 0} (result : Result U KeepFault) → ((db next : Trees) (x : U) → made db next x → also db next x) → PerformsNeverBad store old new result made → PerformsNeverBad store old new result also
  makes_also (Ok y) follows does = record { steps = does.steps; yields = λ trusted. follows _ _ y (does.yields trusted); bad = does.bad }
  makes_also (Err f) follows does = record { steps = does.steps; yields = λ _. tt; bad = does.bad }

  -- ---- one statement

  pub stepped_within : (sql : List ℕ) (params : Row) (old new : MutBor (Held S)) (P : ℕ → Type 0) (result : Result ℕ Error) → Stepped sql params (state store old.now) (state store new.now) result
      → new.ghost_name ≡ old.ghost_name → (old.now.in_transaction ≡ false → new.now ≡ old.now) → Lasts (state store old.now) (state store new.now) → BeginsInside store old
      → ((count : ℕ) → IsInside (state store old.now) → Executes sql params (state store old.now) (state store new.now) (Ok count) → ((state store new.now).now.schema ≡ office_schema) × P count)
      → StepsWithin store old new result
  stepped_within sql params old new P result h same idle lasts inside gives =
      let before : IsTrusted (state store new.now) → IsTrusted (state store old.now) = λ trusted. elim (cases_Bool old.now.in_transaction) [
        | inl begun ↦ step_before _ _ _ _ result h begun trusted
        | inr is ↦ subst (λ (s : Held S). IsTrusted (state store s)) (idle is) trusted
      ] in
      record {
        same_reference = same;
        before = before;
        lasts = lasts;
        stays = λ clean trusted. step_open _ _ _ _ result h clean trusted;
        on = λ trusted. step_counts_on _ _ _ _ P result h trusted inside gives;
        err = λ trusted. committed_stays _ _ _ _ result h (inside (before trusted)).begun trusted;
      }

  pub asked_within : {R : Type 0} (items : R → List Row) (sql : List ℕ) (params : Row) (old new : MutBor (Held S)) (result : Result R Error) → AskedInside items sql params (state store old.now) (state store new.now) result
      → new.ghost_name ≡ old.ghost_name → IsPlain (understood office_schema sql) → Lasts (state store old.now) (state store new.now) → BeginsInside store old → StepsWithin store old new result
  asked_within items sql params old new result asked same plain lasts inside = record {
    same_reference = same;
    before = λ trusted. inside_before _ _ _ _ _ _ asked trusted;
    lasts = lasts;
    stays = λ clean trusted. inside_open _ _ _ _ _ _ asked clean trusted;
    on = λ trusted. inside_on _ _ _ _ _ plain inside _ asked trusted;
    err = λ trusted. inside_err _ _ _ _ _ _ asked trusted;
  }

  -- ---- one statement, and what it makes or shows

  pub stepped_does : (sql : List ℕ) (params : Row) (old new : MutBor (Held S)) (made : Trees → Trees → ℕ → Type 0) (result : Result ℕ Error) → Stepped sql params (state store old.now) (state store new.now) result
      → new.ghost_name ≡ old.ghost_name → (old.now.in_transaction ≡ false → new.now ≡ old.now) → Lasts (state store old.now) (state store new.now) → BeginsInside store old
      → ((count : ℕ) → IsInside (state store old.now) → Executes sql params (state store old.now) (state store new.now) (Ok count) → ((state store new.now).now.schema ≡ office_schema) × made (state store old.now).now.trees (state store new.now).now.trees count)
      → Performs store old new result made
  stepped_does sql params old new made result h same idle lasts inside gives =
      let P = made (state store old.now).now.trees (state store new.now).now.trees in
      record { steps = stepped_within sql params old new P result h same idle lasts inside gives; yields = λ trusted. step_counts _ _ _ _ P result h trusted inside gives }

  pub asked_looks : {R : Type 0} (items : R → List Row) (sql : List ℕ) (params : Row) (old new : MutBor (Held S)) (shown : Trees → List Row → Type 0) (result : Result R Error) → AskedInside items sql params (state store old.now) (state store new.now) result
      → new.ghost_name ≡ old.ghost_name → IsPlain (understood office_schema sql) → Lasts (state store old.now) (state store new.now) → BeginsInside store old
      → ((rows : List Row) → (state store old.now).now.schema ≡ office_schema → Shown sql params (state store old.now) (state store new.now) rows → shown (state store old.now).now.trees rows)
      → Looks store old new result (λ db rows. shown db (items rows))
  asked_looks items sql params old new shown result asked same plain lasts inside gives = record {
    steps = asked_within items sql params old new result asked same plain lasts inside;
    same = λ trusted. inside_same _ _ _ _ _ plain inside _ asked trusted;
    yields = λ trusted. inside_rows items sql params _ _ plain inside (shown (state store old.now).now.trees) result asked trusted gives;
  }
