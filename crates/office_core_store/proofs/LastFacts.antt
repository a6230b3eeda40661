-- Calls on a store one after another.
use Rattle.std.proofs.Common.{◌≤◌, ◌⊎◌, inl, inr, ℕ, Bool, true, Result, Ok, Err, OnOk, is_ok, refl, arith}
use Rattle.office_mail.specs.Counts.{HasRisen}
use Rattle.office_store_keeper.specs.declared.keeper.Keeper.{Ghosts}
use Rattle.office_core_store.specs.StaysTrusted.{StaysTrusted}

-- a count that rose later rose
pub risen_after : (a b c : ℕ) → a ≤ b → HasRisen b c → HasRisen a c
risen_after a b c low rose = omega (arith, low, rose)

pub risen_before : (a b c : ℕ) → HasRisen a b → b ≤ c → HasRisen a c
risen_before a b c rose low = omega (arith, low, rose)

pub lasts_none : {K : Type 0} (keeper : Ghosts K) (k : K) (b : Bool) → StaysTrusted keeper k k b
lasts_none keeper k b = record {
  clean = λ clean. clean;
  faults = omega arith;
  stays = λ clean trusted well. trusted;
  shut = λ clean trusted. inl trusted;
}

-- a call after one that went well
pub lasts_then : {K : Type 0} (keeper : Ghosts K) (old mid new : K) (b : Bool) → StaysTrusted keeper old mid true → StaysTrusted keeper mid new b → StaysTrusted keeper old new b
lasts_then keeper old mid new b one two = record {
  clean = λ clean. one.clean (two.clean clean);
  faults = omega (arith, one.faults, two.faults);
  stays = λ clean trusted well. two.stays clean (one.stays (two.clean clean) trusted refl) well;
  shut = λ clean trusted. elim (two.shut clean (one.stays (two.clean clean) trusted refl)) [
    | inl now ↦ inl now
    | inr rose ↦ inr (risen_after (keeper.disk_faults old) (keeper.disk_faults mid) (keeper.disk_faults new) one.faults rose)
  ];
}

-- what goes well for the store may go ill for another cause
pub lasts_any : {K : Type 0} (keeper : Ghosts K) (old new : K) (b : Bool) → StaysTrusted keeper old new true → StaysTrusted keeper old new b
lasts_any keeper old new b one = record {
  clean = one.clean;
  faults = one.faults;
  stays = λ clean trusted well. one.stays clean trusted refl;
  shut = one.shut;
}

-- what a call of a store says
pub lasts_by : {K T E : Type 0} (keeper : Ghosts K) (old new : K) (r : Result T E) → (keeper.is_clean new → keeper.is_clean old) → keeper.disk_faults old ≤ keeper.disk_faults new → (keeper.is_clean new → keeper.is_trusted old → OnOk r (keeper.is_trusted new)) → (keeper.is_clean new → keeper.is_trusted old → keeper.is_trusted new ⊎ HasRisen (keeper.disk_faults old) (keeper.disk_faults new)) → StaysTrusted keeper old new (is_ok r)
lasts_by keeper old new (Ok x) clean faults stays shut = record { clean = clean; faults = faults; stays = λ c t well. stays c t; shut = shut }
lasts_by keeper old new (Err e) clean faults stays shut = record { clean = clean; faults = faults; stays = λ c t well. absurd (cc well); shut = shut }

-- how calls carry a store on
pub ruleset lasting = (lasts_then, lasts_any, lasts_none, lasts_by)
