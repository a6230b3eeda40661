-- Calls that only ask, one after another, and what they answer of a store that reads.
use Rattle.std.proofs.Common.{◌≡◌, ◌≢◌, inl, inr, ℕ, Bool, true, Option, Some, None, Result, Ok, Err, IsSome, refl, sym, subst, ◌∙◌, arith}
use Rattle.std.specs.Prelude.{is_some}
use Rattle.office_mail.specs.Counts.{HasRisen}
use Rattle.office_mail.specs.Lists.{Lists}
use Rattle.office_store_keeper.specs.Content.{Content}
use Rattle.office_store_keeper.specs.Keeping.{Counted, OnlyReads}
use Rattle.office_store_keeper.specs.Provenance.{AreOwnTexts}
use Rattle.office_store_keeper.specs.declared.faults.Cause.TheVariants.{BadRow}
use Rattle.office_store_keeper.specs.declared.faults.KeepFault.{KeepFault}
use Rattle.office_store_keeper.specs.declared.faults.KeepFault.TheVariants.{NoMemory, Store}
use Rattle.office_store_keeper.specs.declared.keeper.Keeper.{Ghosts}
use Rattle.office_core_store.proofs.LastFacts.{risen_after, risen_before}
use Rattle.office_core_check.specs.steps.Unread.{Asks, IsReadable}

counted_keeps : {T : Type 0} (old new : ℕ) (r : Result T KeepFault) → Counted old new r → (n : ℕ) → HasRisen n old → HasRisen n new
counted_keeps old new (Ok value) e n rose = subst (HasRisen n) (sym e) rose
counted_keeps old new (Err NoMemory) e n rose = subst (HasRisen n) (sym e) rose
counted_keeps old new (Err (Store cause)) risen n rose = omega (arith, risen, rose)

-- a call of a store that asks
pub asks_by : {K T : Type 0} (keeper : Ghosts K) (old new : K) (r : Result T KeepFault)
    → OnlyReads keeper.is_clean keeper.is_trusted keeper.is_legible keeper.setup keeper.content keeper.refusals keeper.disk_faults old new r → Asks keeper old new
asks_by keeper old new r reads = record {
  same = reads.same;
  setup = reads.keeps.setup;
  before = reads.keeps.before;
  legible = reads.legible;
  clean = reads.keeps.clean;
  faults = reads.keeps.faults;
  shut = reads.keeps.shut;
  counts = counted_keeps (keeper.refusals old) (keeper.refusals new) r reads.keeps.counted;
}

pub asks_then : {K : Type 0} (keeper : Ghosts K) (old mid new : K) → Asks keeper old mid → Asks keeper mid new → Asks keeper old new
asks_then keeper old mid new one two = record {
  same = λ trusted. two.same trusted ∙ one.same (two.before trusted);
  setup = two.setup ∙ one.setup;
  before = λ trusted. one.before (two.before trusted);
  legible = λ trusted was. two.legible trusted (one.legible (two.before trusted) was);
  clean = λ clean. one.clean (two.clean clean);
  faults = omega (arith, one.faults, two.faults);
  shut = λ clean trusted. elim (one.shut (two.clean clean) trusted) [
    | inl still ↦ elim (two.shut clean still) [
      | inl now ↦ inl now
      | inr rose ↦ inr (risen_after (keeper.disk_faults old) (keeper.disk_faults mid) (keeper.disk_faults new) one.faults rose)
    ]
    | inr rose ↦ inr (risen_before (keeper.disk_faults old) (keeper.disk_faults mid) (keeper.disk_faults new) rose two.faults)
  ];
  counts = λ n rose. two.counts n (one.counts n rose);
}

-- what reads stays so
pub readable_then : {K : Type 0} (keeper : Ghosts K) (old mid : K) → Asks keeper old mid → keeper.is_trusted mid → IsReadable keeper old → IsReadable keeper mid
readable_then keeper old mid asks trusted so = (
  asks.legible trusted so.0,
  subst (λ (c : Content). AreOwnTexts (keeper.setup mid) c.kept) (sym (asks.same trusted))
      (subst (λ (s : Lists). AreOwnTexts s (keeper.content old).kept) (sym asks.setup) so.1),
)

-- no part is named where no row is bad
pub none_bad : {T A : Type 0} (o : Option A) (r : Result T KeepFault) → (IsSome o → r ≡ Err (Store BadRow)) → r ≢ Err (Store BadRow) → o ≡ None
none_bad None r is not = refl
none_bad (Some x) r is not = absurd (not (is refl))

some_none : {A : Type 0} (o : Option A) → is_some o ≡ true → o ≡ None → ⊥
some_none (Some x) e none = absurd (cc (none))
some_none None e none = absurd (cc (e))

-- a part that is named is one of a store that doesn't read
pub named : {A : Type 0} {P : Type 0} (o : Option A) (b : Bool) → b ≡ is_some o → b ≡ true → o ≡ None → P
named o b is there none = absurd (some_none o (sym is ∙ there) none)
