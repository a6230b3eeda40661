-- What calls on an office leave, one after another.
use Rattle.std.proofs.Common.{inl, inr, false, ◌≡◌, ℕ, length, Result, Ok, Err, ap, ◌∙◌, refl, arith}
use Rattle.office_mail.specs.Lists.{Lists}
use Rattle.office_store_keeper.specs.Content.{Content}
use Rattle.office_mail.specs.Counts.{HasRisen}
use Rattle.office_store_keeper.specs.declared.keeper.Keeper.{Ghosts}
use Rattle.office_core_store.specs.declared.faults.StoreFault.{StoreFault}
use Rattle.office_core_store.specs.declared.faults.StoreFault.TheVariants.{NoMemory, Store}
use Rattle.office_core_replies.specs.declared.faults.DeliverFault.{DeliverFault}
use Rattle.office_core_replies.specs.declared.faults.DeliverFault.TheVariants as deliver
use Rattle.office_core_replies.specs.declared.faults.Held.{Held}
use Rattle.office_core.specs.Preserves.{HasNotFallen, Holds, StoreRefused, Preserves, Asks}
use Rattle.office_core_store.specs.Counted.{Counted}
use Rattle.office_core_replies.specs.Answered.{CountedDelivery}
use Rattle.office_core_store.specs.StaysTrusted.{StaysTrusted}
use Rattle.office_core_facts.specs.OfficeState.{OfficeState}
use Rattle.office_core_facts.specs.State.{state_of}
use Rattle.office_core_store.proofs.LastFacts.{risen_after, risen_before, lasts_none}

not_fallen_same : (a b : ℕ) → b ≡ a → HasNotFallen a b
not_fallen_same a b e = omega (arith, e)

not_fallen_twice : (a b c : ℕ) → HasNotFallen a b → HasNotFallen b c → HasNotFallen a c
not_fallen_twice a b c h k = omega (arith, h, k)

risen_first : (a b c : ℕ) → HasRisen a b → HasNotFallen b c → HasRisen a c
risen_first a b c h k = omega (arith, h, k)

risen_next : (a b c : ℕ) → HasNotFallen a b → HasRisen b c → HasRisen a c
risen_next a b c h k = omega (arith, h, k)

-- a refusal of the store is counted
pub risen : {T : Type 0} (a b : ℕ) (r : Result T StoreFault) → Counted a b r → r ≡ Err Store → HasRisen a b
risen a b (Ok x) h e = absurd (cc (e))
risen a b (Err NoMemory) h e = absurd (cc (e))
risen a b (Err Store) h e = h

pub risen_delivery : (a b : ℕ) (r : Result Held DeliverFault) → CountedDelivery a b r → r ≡ Err deliver.Store → HasRisen a b
risen_delivery a b (Ok x) h e = absurd (cc (e))
risen_delivery a b (Err (deliver.Mail f)) h e = absurd (cc (e))
risen_delivery a b (Err deliver.OtherText) h e = absurd (cc (e))
risen_delivery a b (Err deliver.Store) h e = h

-- two calls that may have gone ill
lasts_twice : {K : Type 0} (keeper : Ghosts K) (a b c : K) → StaysTrusted keeper a b false → StaysTrusted keeper b c false → StaysTrusted keeper a c false
lasts_twice keeper a b c h k = record {
  clean = λ clean. h.clean (k.clean clean);
  faults = omega (arith, h.faults, k.faults);
  stays = λ clean t e. absurd (cc (e));
  shut = λ clean t. elim (h.shut (k.clean clean) t) [
    | inl now ↦ elim (k.shut clean now) [
      | inl last ↦ inl last
      | inr rose ↦ inr (risen_after (keeper.disk_faults a) (keeper.disk_faults b) (keeper.disk_faults c) h.faults rose)
    ]
    | inr rose ↦ inr (risen_before (keeper.disk_faults a) (keeper.disk_faults b) (keeper.disk_faults c) rose k.faults)
  ];
}

pub carries_none : {K : Type 0} (keeper : Ghosts K) (s : K) → Preserves keeper s s
carries_none keeper s = record { before = λ t. t; sound = λ t o. o; setup = refl; refusals = not_fallen_same (keeper.refusals s) (keeper.refusals s) refl; lasts = lasts_none keeper s false }

pub carries_twice : {K : Type 0} (keeper : Ghosts K) (a b c : K) → Preserves keeper a b → Preserves keeper b c → Preserves keeper a c
carries_twice keeper a b c h k = record {
  before = λ t. h.before (k.before t);
  sound = λ t o. k.sound t (h.sound (k.before t) o);
  setup = k.setup ∙ h.setup;
  refusals = not_fallen_twice (keeper.refusals a) (keeper.refusals b) (keeper.refusals c) h.refusals k.refusals;
  lasts = lasts_twice keeper a b c h.lasts k.lasts;
}

-- of two calls, what the first one and the second one may use
pub holds_first : {K : Type 0} (keeper : Ghosts K) (a b c : K) → Preserves keeper b c → Holds keeper a c → Holds keeper a b
holds_first keeper a b c k h = (k.before h.0, h.1)

pub holds_next : {K : Type 0} (keeper : Ghosts K) (a b c : K) → Preserves keeper a b → Preserves keeper b c → Holds keeper a c → Holds keeper b c
holds_next keeper a b c h k t = (t.0, h.sound (k.before t.0) t.1)

pub refused_first : {K : Type 0} (keeper : Ghosts K) (a b c : K) → Preserves keeper b c → StoreRefused keeper a b → StoreRefused keeper a c
refused_first keeper a b c k h = risen_first (keeper.refusals a) (keeper.refusals b) (keeper.refusals c) h k.refusals

pub refused_next : {K : Type 0} (keeper : Ghosts K) (a b c : K) → Preserves keeper a b → StoreRefused keeper b c → StoreRefused keeper a c
refused_next keeper a b c h k = risen_next (keeper.refusals a) (keeper.refusals b) (keeper.refusals c) h.refusals k

pub asks_none : {K : Type 0} (keeper : Ghosts K) (s : K) → Asks keeper s s
asks_none keeper s = record { carries = carries_none keeper s; same = λ t. refl }

pub asks_twice : {K : Type 0} (keeper : Ghosts K) (a b c : K) → Asks keeper a b → Asks keeper b c → Asks keeper a c
asks_twice keeper a b c h k = record {
  carries = carries_twice keeper a b c h.carries k.carries;
  same = λ t. k.same t ∙ h.same (k.carries.before t);
}

-- a call that asks leaves the state
pub state_asked : {K : Type 0} (keeper : Ghosts K) (a b : K) → Asks keeper a b → keeper.is_trusted b → state_of keeper b ≡ state_of keeper a
state_asked {K} keeper a b h t =
    let of : Lists → Content → OfficeState = λ l c. record { setup = l; kept = c.kept; finished = length c.reports } in
    ap (λ (l : Lists). of l (keeper.content b)) h.carries.setup ∙ ap (λ (c : Content). of (keeper.setup a) c) (h.same t)
