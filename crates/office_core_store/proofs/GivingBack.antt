-- A testing that is given back to the store that handed it out.
use Rattle.std.proofs.Common.{◌≡◌, ℕ, inl, Result, Ok, Err, IfErr, ◌∙◌, refl, arith}
use Rattle.office_store_keeper.specs.declared.keeper.Keeper.{Ghosts}
use Rattle.office_core_store.specs.Counted.{Counted}
use Rattle.office_core_store.specs.declared.faults.StoreFault.{StoreFault}
use Rattle.office_core_store.specs.declared.faults.StoreFault.TheVariants.{NoMemory, Store}
use Rattle.office_core_store.specs.ReadsStore.{ReadsStore}

counted_back : {U : Type 0} (result : Result U StoreFault) (n m : ℕ) → m ≡ n → IfErr result (λ fault. fault ≡ NoMemory) → Counted n m result
counted_back (Ok y) n m e h = e
counted_back (Err NoMemory) n m e h = e
counted_back (Err Store) n m e h = absurd (cc h)

-- what a call read before it is read after it, and what comes of it fails for want of memory alone
pub given_back : {K T U : Type 0} (keeper : Ghosts K) (old mid new : K) (x : T) (result : Result U StoreFault) → ReadsStore keeper old mid (Ok x)
    → (keeper.is_trusted new → keeper.content new ≡ keeper.content mid) → keeper.setup new ≡ keeper.setup mid → (keeper.is_clean new → keeper.is_clean mid) → keeper.disk_faults new ≡ keeper.disk_faults mid
    → (keeper.is_trusted new → keeper.is_trusted mid) → (keeper.is_trusted mid → keeper.is_trusted new) → (keeper.is_trusted new → keeper.is_legible mid → keeper.is_legible new)
    → keeper.refusals new ≡ keeper.refusals mid → IfErr result (λ fault. fault ≡ NoMemory) → ReadsStore keeper old new result
given_back keeper old mid new x result so kept lists clear failures back on readable refused no_store = record {
  same = λ trusted. kept trusted ∙ so.same (back trusted);
  setup = lists ∙ so.setup;
  before = λ trusted. so.before (back trusted);
  legible = λ trusted was. readable trusted (so.legible (back trusted) was);
  lasts = record {
    clean = λ now. so.lasts.clean (clear now);
    faults = omega (arith, so.lasts.faults, failures);
    stays = λ now trusted well. on (so.lasts.stays (clear now) trusted refl);
    shut = λ now trusted. inl (on (so.lasts.stays (clear now) trusted refl));
  };
  counted = counted_back result (keeper.refusals old) (keeper.refusals new) (refused ∙ so.counted) no_store;
}
