-- Calls that only ask a store, one after another.
use Rattle.std.proofs.Common.{◌≡◌, ℕ, Bool, true, false, Result, Ok, Err, ◌∙◌, refl, sym, ap, subst}
use Rattle.office_store_keeper.specs.declared.keeper.Keeper.{Ghosts}
use Rattle.office_mail.specs.Counts.{HasRisen}
use Rattle.office_core_store.specs.Counted.{Counted}
use Rattle.office_core_store.specs.declared.faults.StoreFault.{StoreFault}
use Rattle.office_core_store.specs.declared.faults.StoreFault.TheVariants.{NoMemory, Store}
use Rattle.office_core_store.specs.ReadsStore.{ReadsStore}
use Rattle.office_core_store.proofs.LastFacts.{lasts_none, lasts_then}

-- calls that went well
abbrev pub Looked : {K : Type 0} → Ghosts K → K → K → Type 0
Looked keeper old new = ReadsStore {T = Bool} keeper old new (Ok true)

pub looked_none : {K : Type 0} (keeper : Ghosts K) (k : K) → Looked keeper k k
looked_none keeper k = record {
  same = λ trusted. refl;
  setup = refl;
  before = λ trusted. trusted;
  legible = λ trusted was. was;
  lasts = lasts_none keeper k true;
  counted = refl;
}

-- one more
pub looked_then : {K T : Type 0} (keeper : Ghosts K) (old mid new : K) {x : T} → Looked keeper old mid → ReadsStore keeper mid new (Ok x) → Looked keeper old new
looked_then keeper old mid new so next = record {
  same = λ trusted. next.same trusted ∙ so.same (next.before trusted);
  setup = next.setup ∙ so.setup;
  before = λ trusted. so.before (next.before trusted);
  legible = λ trusted was. next.legible trusted (so.legible (next.before trusted) was);
  lasts = lasts_then keeper old mid new true so.lasts next.lasts;
  counted = next.counted ∙ so.counted;
}

counted_fails : (V W : Type 0) (fault : StoreFault) (n m k : ℕ) → m ≡ n → Counted {T = V} m k (Err fault) → Counted {T = W} n k (Err fault)
counted_fails V W NoMemory n m k e h = h ∙ e
counted_fails V W Store n m k e h = subst (λ (x : ℕ). HasRisen x k) e h

-- and one that fails
pub looked_fails : {K V W : Type 0} (keeper : Ghosts K) (old mid new : K) (fault other : StoreFault) (r : Result W StoreFault) → r ≡ Err other → other ≡ fault → Looked keeper old mid → ReadsStore {T = V} keeper mid new (Err fault) → ReadsStore {T = W} keeper old new r
looked_fails {K} {V} {W} keeper old mid new fault other r is same so next =
    let failed : ReadsStore {T = W} keeper old new (Err fault) = record {
      same = λ trusted. next.same trusted ∙ so.same (next.before trusted);
      setup = next.setup ∙ so.setup;
      before = λ trusted. so.before (next.before trusted);
      legible = λ trusted was. next.legible trusted (so.legible (next.before trusted) was);
      lasts = lasts_then keeper old mid new false so.lasts next.lasts;
      counted = counted_fails V W fault (keeper.refusals old) (keeper.refusals mid) (keeper.refusals new) so.counted next.counted;
    } in
    subst (λ (s : Result W StoreFault). ReadsStore {T = W} keeper old new s) (sym (is ∙ ap Err same)) failed
