-- Questions to an office, one after another, with what is written meanwhile.
use Rattle.std.proofs.Common.{◌≡◌, ℕ, Bool, true, Result, Ok, is_ok, refl, subst}
use Rattle.office_store_keeper.specs.declared.keeper.Keeper.{Ghosts}
use Rattle.office_core_store.specs.Counted.{Counted}
use Rattle.office_core_store.specs.declared.faults.StoreFault.{StoreFault}
use Rattle.office_core.specs.Preserves.{Asks, AsksOffice, Holds}
use Rattle.office_core.proofs.CarryFacts.{asks_none, asks_twice}
use Rattle.office_core_store.proofs.LastFacts.{lasts_none, lasts_then}
use Rattle.office_core_queries.specs.declared.faults.AskFault.{AskFault}
use Rattle.office_core_queries.specs.Asking.{AsksBoth, CountsBoth}
use Rattle.office_core_queries.specs.steps.Asking.{CountsWrites}

-- questions that were answered
abbrev pub Asked : {K : Type 0} → Ghosts K → K → K → Type 0
Asked keeper old new = AsksOffice {T = Bool} keeper old new (Ok true)

pub asked_none : {K : Type 0} (keeper : Ghosts K) (s : K) → Asked keeper s s
asked_none keeper s = record { asks = asks_none keeper s; lasts = lasts_none keeper s true; counted = refl }

-- one more
pub asked_then : {K T : Type 0} (keeper : Ghosts K) (a b c : K) (r : Result T StoreFault) → Asked keeper a b → AsksOffice keeper b c r → AsksOffice keeper a c r
asked_then {K} {T} keeper a b c r so next = record {
  asks = asks_twice keeper a b c so.asks next.asks;
  lasts = lasts_then keeper a b c (is_ok r) so.lasts next.lasts;
  counted = subst (λ n. Counted n (keeper.refusals c) r) so.counted next.counted;
}

-- what is answered doesn't matter
pub asked_any : {K S T : Type 0} (keeper : Ghosts K) (a b : K) (x : S) (y : T) → AsksOffice keeper a b (Ok x) → AsksOffice keeper a b (Ok y)
asked_any keeper a b x y h = record { asks = h.asks; lasts = h.lasts; counted = h.counted }

-- questions that were answered, with all that was written, and no failure of the writer
abbrev pub AskedBoth : {K : Type 0} → Ghosts K → K → K → ℕ → ℕ → Type 0
AskedBoth keeper old new failed fails = AsksBoth {T = Bool} keeper old new failed fails (Ok true)

pub both_none : {K : Type 0} (keeper : Ghosts K) (s : K) (n : ℕ) → AskedBoth keeper s s n n
both_none keeper s n = record { asks = asks_none keeper s; lasts = lasts_none keeper s true; counted = (refl, refl) }

counts_then : {T : Type 0} (a b c i j k : ℕ) (r : Result T AskFault) → b ≡ a → j ≡ i → CountsBoth b c j k r → CountsBoth a c i k r
counts_then a b c i j k r e f h = subst (λ n. CountsBoth n c i k r) e (subst (λ n. CountsBoth b c n k r) f h)

-- one more
pub both_then : {K T : Type 0} (keeper : Ghosts K) (a b c : K) (i j k : ℕ) (r : Result T AskFault) → AskedBoth keeper a b i j → AsksBoth keeper b c j k r → AsksBoth keeper a c i k r
both_then keeper a b c i j k r so next = record {
  asks = asks_twice keeper a b c so.asks next.asks;
  lasts = lasts_then keeper a b c (is_ok r) so.lasts next.lasts;
  counted = counts_then (keeper.refusals a) (keeper.refusals b) (keeper.refusals c) i j k r so.counted.0 so.counted.1 next.counted;
}

pub both_any : {K S T : Type 0} (keeper : Ghosts K) (a b : K) (i j : ℕ) (x : S) (y : T) → AsksBoth keeper a b i j (Ok x) → AsksBoth keeper a b i j (Ok y)
both_any keeper a b i j x y h = record { asks = h.asks; lasts = h.lasts; counted = h.counted }

-- a question of the store alone
pub both_asked : {K S : Type 0} (keeper : Ghosts K) (a b : K) (n : ℕ) (x : S) → AsksOffice keeper a b (Ok x) → AskedBoth keeper a b n n
both_asked keeper a b n x h = record { asks = h.asks; lasts = h.lasts; counted = (h.counted, refl) }

-- a write alone
pub both_written : {K S : Type 0} (keeper : Ghosts K) (a : K) (i j : ℕ) (x : S) → CountsWrites i j (Ok x) → AskedBoth keeper a a i j
both_written keeper a i j x h = record { asks = asks_none keeper a; lasts = lasts_none keeper a true; counted = (refl, h) }

-- of several questions, what the first ones and the next one may use
pub holds_before : {K : Type 0} (keeper : Ghosts K) (a b c : K) → Asks keeper b c → Holds keeper a c → Holds keeper a b
holds_before keeper a b c next h = (next.carries.before h.0, h.1)

pub holds_behind : {K : Type 0} (keeper : Ghosts K) (a b c : K) → Asks keeper a b → Asks keeper b c → Holds keeper a c → Holds keeper b c
holds_behind keeper a b c so next h = (h.0, so.carries.sound (next.carries.before h.0) h.1)
