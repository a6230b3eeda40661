-- What calls that only read leave, one after the other.
use Rattle.std.proofs.Common.{◌≡◌, ◌∙◌, ℕ, List, Bool, true, false, Result, Ok, Err, IsErr, refl, sym, subst, true≢false}
use Rattle.sqlite_trees.specs.declared.store.Store.{Ghosts}
use Rattle.sqlite.specs.Order.{Row}
use Rattle.sqlite.specs.declared.error.Error.{Error}
use Rattle.sqlite.specs.Held.{Held, state}
use Rattle.sqlite.specs.Effect.{Database}
use Rattle.sqlite.specs.State.{Shown}
use Rattle.sqlite.specs.Tree.{Trees}
use Rattle.sqlite.specs.Listing.{understood}
use Rattle.sqlite.proofs.Callers.{IsPlain}
use Rattle.office_store_testing_tables.specs.Layout.{office_schema}
use Rattle.office_store_testing_tables.specs.steps.Tables.{Lasts}
use Rattle.office_store_testing_tables.specs.steps.Reads.{LeavesStore, BeginsOurs, Reads}
use Rattle.office_store_testing_tables.proofs.StateLemmas.{Asked, asked_before, asked_same, asked_open, asked_rows, lasts_same, lasts_then, clean_before}

-- the calls so far went well
abbrev pub HasRead : {S : Type 0} → Ghosts S → Held S → Held S → Type 0
HasRead store old new = LeavesStore {T = Bool} {E = Error} store old new (Ok true)

module _ {S : Type 0} {store : Ghosts S} where
  -- nothing was read yet
  pub none_read : {U F : Type 0} (old : Held S) (result : Result U F) → BeginsOurs store old → LeavesStore store old old result
  none_read old (Ok y) ours = record { before = λ trusted. trusted; lasts = lasts_same _; stays = λ clean trusted. trusted; same = λ trusted. record { ours = ours trusted; now = refl } }
  none_read old (Err e) ours = record { before = λ trusted. trusted; lasts = lasts_same _; stays = λ _ _. tt; same = λ trusted. record { ours = ours trusted; now = refl } }

  -- what a call left is left, whatever is made of its result
  pub kept_read : {T U E F : Type 0} {old new : Held S} {x : T} (result : Result U F) → LeavesStore {E = E} store old new (Ok x) → LeavesStore store old new result
  kept_read (Ok y) call = record { before = call.before; lasts = call.lasts; stays = call.stays; same = call.same }
  kept_read (Err e) call = record { before = call.before; lasts = call.lasts; stays = λ _ _. tt; same = call.same }

  -- a call's fault is passed on
  pub failed_read : {T U E F : Type 0} {old new : Held S} {e : E} (result : Result U F) → IsErr result → LeavesStore {T = T} store old new (Err e) → LeavesStore store old new result
  failed_read (Ok y) is call = absurd (true≢false (sym is))
  failed_read (Err f) is call = record { before = call.before; lasts = call.lasts; stays = λ _ _. tt; same = call.same }

  -- a call after one that went well
  pub then_read : {T U E F : Type 0} {old mid new : Held S} {x : T} (result : Result U F) → LeavesStore {E = E} store old mid (Ok x) → LeavesStore store mid new result → LeavesStore store old new result
  then_read (Ok y) first second = record {
    before = λ trusted. first.before (second.before trusted);
    lasts = lasts_then _ _ _ first.lasts second.lasts;
    stays = λ clean trusted. second.stays clean (first.stays (clean_before _ _ second.lasts clean) trusted);
    same = λ trusted. record { ours = (second.same trusted).ours; now = (second.same trusted).now ∙ (first.same (second.before trusted)).now };
  }
  then_read (Err e) first second = record {
    before = λ trusted. first.before (second.before trusted);
    lasts = lasts_then _ _ _ first.lasts second.lasts;
    stays = λ _ _. tt;
    same = λ trusted. record { ours = (second.same trusted).ours; now = (second.same trusted).now ∙ (first.same (second.before trusted)).now };
  }

  -- ---- one statement

  pub asked_read : {R : Type 0} (items : R → List Row) (sql : List ℕ) (params : Row) (old new : Held S) (result : Result R Error) → Asked items sql params (state store old) (state store new) result
      → IsPlain (understood office_schema sql) → Lasts (state store old) (state store new) → BeginsOurs store old → LeavesStore store old new result
  asked_read items sql params old new result asked plain lasts ours = record {
    before = λ trusted. asked_before _ _ _ _ _ _ asked trusted;
    lasts = lasts;
    stays = λ clean trusted. asked_open _ _ _ _ _ _ asked clean trusted;
    same = λ trusted. asked_same _ _ _ _ _ _ asked plain (ours (asked_before _ _ _ _ _ _ asked trusted)) trusted;
  }

  -- and what it finds
  pub asked_reads : {R : Type 0} (items : R → List Row) (sql : List ℕ) (params : Row) (old new : Held S) (found : Trees → List Row → Type 0) (result : Result R Error) → Asked items sql params (state store old) (state store new) result
      → IsPlain (understood office_schema sql) → Lasts (state store old) (state store new) → BeginsOurs store old
      → ((rows : List Row) → (state store old).now.schema ≡ office_schema → Shown sql params (state store old) (state store new) rows → found (state store old).now.trees rows)
      → Reads store old new result (λ db rows. found db (items rows))
  asked_reads items sql params old new found result asked plain lasts ours gives = record {
    reads = asked_read items sql params old new result asked plain lasts ours;
    finds = λ trusted.
        let was = ours (asked_before _ _ _ _ _ _ asked trusted) in
        let same = asked_same _ _ _ _ _ _ asked plain was trusted in
        asked_rows items sql params _ _ (found (state store new).now.trees) result asked trusted (λ rows h. subst (λ (d : Database). found d.trees rows) (sym same.now) (gives rows was.schema h));
  }
