-- What a check says of a store that refused.
use Rattle.std.proofs.Common.{◌≡◌, ◌≢◌, inl, inr, ℕ, true, false, Result, Ok, Err, IfOk, refl, sym, ap, subst, ◌∙◌, arith}
use Rattle.office_mail.specs.Lists.{Lists}
use Rattle.office_store_keeper.specs.Content.{Content}
use Rattle.office_store_keeper.specs.Provenance.{AreOwnTexts}
use Rattle.office_store_keeper.specs.declared.faults.Cause.{Cause}
use Rattle.office_store_keeper.specs.declared.faults.Cause.TheVariants.{BadRow}
use Rattle.office_store_keeper.specs.declared.faults.KeepFault.{KeepFault}
use Rattle.office_store_keeper.specs.declared.faults.KeepFault.TheVariants as keep
use Rattle.office_store_keeper.specs.declared.keeper.Keeper.{Ghosts}
use Rattle.office_core_store.specs.Counted.{Counted}
use Rattle.office_core_store.specs.declared.faults.StoreFault.{StoreFault}
use Rattle.office_core_store.specs.declared.faults.StoreFault.TheVariants as store
use Rattle.office_core_store.specs.ReadsStore.{ReadsStore}
use Rattle.office_core_store.specs.StaysTrusted.{StaysTrusted}
use Rattle.office_core_store.proofs.LastFacts.{risen_after, risen_before}
use Rattle.office_core_facts.specs.State.{IsOffice}
use Rattle.office_core_check.specs.steps.Unread.{Asks, IsEnd, IsReadable, IsTold}
use Rattle.office_core_check.specs.Whole.{CountedCheck, IsFound, is_read}
use Rattle.office_core_check.specs.declared.Checked.{Checked}
use Rattle.office_core_check.specs.declared.Checked.TheVariants.{Whole, Differs, Unread}
use Rattle.office_core_check.specs.declared.Difference.{Difference}

-- what is found where each row reads, of a store that is legible if it was
pub found_was : (setup : Lists) (content : Content) (was legible : Type 0) (checked : Checked) → (was → legible) → IsFound setup content legible legible checked → IsFound setup content was legible checked
found_was setup content was legible (Whole runs) still found = found
found_was setup content was legible (Differs difference) still found = found
found_was setup content was legible (Unread part) still found = λ so office. found (still so) office

-- and where the store refused
module _ {K : Type 0} (keeper : Ghosts K) (setup : Lists) (old mid : K) (fault : StoreFault) (trusted : keeper.is_trusted mid) (looks : ReadsStore {T = Checked} keeper old mid (Err fault)) (lists : keeper.setup old ≡ setup) where
  readable : keeper.is_legible old → IsOffice setup (keeper.content old) → IsReadable keeper mid
  readable was office = (
    looks.legible trusted was,
    subst (λ (c : Content). AreOwnTexts (keeper.setup mid) c.kept) (sym (looks.same trusted))
        (subst (λ (s : Lists). AreOwnTexts s (keeper.content old).kept) (sym (looks.setup ∙ lists)) office.texts),
  )

  pub found_unread : (legible : Type 0) (r : Result Checked KeepFault) → IsTold fault r → (IsReadable keeper mid → IfOk r (λ _. ⊥)) → IfOk r (IsFound setup (keeper.content old) (keeper.is_legible old) legible)
  found_unread legible (Ok (Unread part)) told none = λ was office. none (readable was office)
  found_unread legible (Ok (Whole runs)) told none = absurd (none_whole fault runs told)
    where
      none_whole : (f : StoreFault) (n : ℕ) → IsTold f (Ok (Whole n)) → ⊥
      none_whole store.NoMemory n told = told
      none_whole store.Store n told = told
  found_unread legible (Ok (Differs difference)) told none = absurd (none_differs fault difference told)
    where
      none_differs : (f : StoreFault) (d : Difference) → IsTold f (Ok (Differs d)) → ⊥
      none_differs store.NoMemory d told = told
      none_differs store.Store d told = told
  found_unread legible (Err f) told none = tt

  pub whole_unread : (r : Result Checked KeepFault) (n : ℕ) → (IsReadable keeper mid → IfOk r (λ _. ⊥)) → keeper.is_legible old → IsOffice setup (keeper.content old) → IfOk r (λ checked. checked ≡ Whole n)
  whole_unread (Ok checked) n none was office = absurd (none (readable was office))
  whole_unread (Err f) n none was office = tt

cause_same : (a b : Cause) → ◌≡◌ {A = Result Checked KeepFault} (Err (keep.Store a)) (Err (keep.Store b)) → a ≡ b
cause_same a b e = cc (e)

pub never_bad : (fault : StoreFault) (r : Result Checked KeepFault) → IsTold fault r → r ≢ Err (keep.Store BadRow)
never_bad fault (Ok checked) told = λ e. absurd (cc (e))
never_bad fault (Err keep.NoMemory) told = λ e. absurd (cc (e))
never_bad store.NoMemory (Err (keep.Store cause)) told = λ e. told
never_bad store.Store (Err (keep.Store cause)) told = λ e. told (cause_same cause BadRow e)

-- the store is left so
both_shut : {K : Type 0} (keeper : Ghosts K) (old mid new : K) → StaysTrusted keeper old mid false → Asks keeper mid new → StaysTrusted keeper old new false
both_shut keeper old mid new one two = record {
  clean = λ clean. one.clean (two.clean clean);
  faults = omega (arith, one.faults, two.faults);
  stays = λ clean trusted well. absurd (cc (well));
  shut = λ clean trusted. elim (one.shut (two.clean clean) trusted) [
    | inl still ↦ elim (two.shut clean still) [
      | inl now ↦ inl now
      | inr rose ↦ inr (risen_after (keeper.disk_faults old) (keeper.disk_faults mid) (keeper.disk_faults new) one.faults rose)
    ]
    | inr rose ↦ inr (risen_before (keeper.disk_faults old) (keeper.disk_faults mid) (keeper.disk_faults new) rose two.faults)
  ];
}

pub lasts_unread : {K : Type 0} (keeper : Ghosts K) (old mid new : K) (fault : StoreFault) (r : Result Checked KeepFault) → IsTold fault r → StaysTrusted keeper old mid false → Asks keeper mid new → StaysTrusted keeper old new (is_read r)
lasts_unread keeper old mid new fault (Ok (Unread part)) told one two = both_shut keeper old mid new one two
lasts_unread keeper old mid new store.NoMemory (Ok (Whole runs)) told one two = absurd told
lasts_unread keeper old mid new store.Store (Ok (Whole runs)) told one two = absurd told
lasts_unread keeper old mid new store.NoMemory (Ok (Differs difference)) told one two = absurd told
lasts_unread keeper old mid new store.Store (Ok (Differs difference)) told one two = absurd told
lasts_unread keeper old mid new fault (Err f) told one two = both_shut keeper old mid new one two

pub counted_unread : {K : Type 0} (keeper : Ghosts K) (old mid new : K) (fault : StoreFault) (r : Result Checked KeepFault) → IsTold fault r → Counted {T = Checked} (keeper.refusals old) (keeper.refusals mid) (Err fault) → (fault ≡ store.NoMemory → new ≡ mid) → Asks keeper mid new
    → CountedCheck (keeper.refusals old) (keeper.refusals new) r
counted_unread keeper old mid new store.NoMemory (Err keep.NoMemory) told counted still asks = ap keeper.refusals (still refl) ∙ counted
counted_unread keeper old mid new store.NoMemory (Err (keep.Store cause)) told counted still asks = absurd told
counted_unread keeper old mid new store.NoMemory (Ok found) told counted still asks = absurd told
counted_unread keeper old mid new store.Store (Ok (Unread part)) told counted still asks = asks.counts (keeper.refusals old) counted
counted_unread keeper old mid new store.Store (Ok (Whole runs)) told counted still asks = absurd told
counted_unread keeper old mid new store.Store (Ok (Differs difference)) told counted still asks = absurd told
counted_unread keeper old mid new store.Store (Err keep.NoMemory) told counted still asks = absurd told
counted_unread keeper old mid new store.Store (Err (keep.Store cause)) told counted still asks = asks.counts (keeper.refusals old) counted

-- and so it is where each row reads
pub lasts_read : {K : Type 0} (keeper : Ghosts K) (old new : K) (checked : Checked) → IsEnd checked → StaysTrusted keeper old new true → StaysTrusted keeper old new (is_read (Ok checked))
lasts_read keeper old new (Whole runs) end lasts = lasts
lasts_read keeper old new (Differs difference) end lasts = lasts
lasts_read keeper old new (Unread part) end lasts = absurd end

pub counted_read : (before after : ℕ) (checked : Checked) → IsEnd checked → after ≡ before → CountedCheck before after (Ok checked)
counted_read before after (Whole runs) end same = same
counted_read before after (Differs difference) end same = same
counted_read before after (Unread part) end same = absurd end
