-- How far each sender's mail is kept without a gap.
use Rattle.std.proofs.Common.{◌≡◌, ⊎_elim, ℕ, ◌+◌, ◌<◌, ◌≤◌, List, length, slice_index, Option, Some, None, IsSome, refl, sym, subst, arith}
use Rattle.std.specs.FinMap.{get}
use Rattle.std.proofs.lemmas.Bool.{cases_lt}
use Rattle.std.proofs.lemmas.List.{get_or_past}
use Rattle.office_mail.specs.Lists.{Lists}
use Rattle.office_mail.specs.Kept.{Kept}
use Rattle.office_core_orders.specs.Ready.{HasNumbers, HasPlaces}
use Rattle.office_core_facts.specs.Seen.{IsUnbroken}
use Rattle.office_core_facts.proofs.CountFacts.{ends_below}
use Rattle.office_core.specs.Unbroken.{AreUnbroken}

-- a sender's numbers were counted up to the first that isn't kept, or to the greatest
pub counted_all : (setup : Lists) (kept : Kept) (sender count : ℕ) → HasPlaces setup kept → HasNumbers kept sender count → (count < 999_999_999 → get kept (sender, count + 1) ≡ None) → IsUnbroken kept sender count
counted_all setup kept sender count places each gap = record {
  each = each;
  gap = ⊎_elim gap (λ (le : 999_999_999 ≤ count). ends_below setup kept sender places (count + 1) (omega (arith, le))) (cases_lt count 999_999_999);
}

none_or : {A : Type 0} (o : Option A) → (IsSome o → ⊥) → o ≡ None
none_or None h = refl
none_or (Some x) h = absurd (h refl)

-- nothing is kept of who is no sender
of_nobody : (setup : Lists) (kept : Kept) (sender : ℕ) → HasPlaces setup kept → length setup.senders ≤ sender → IsUnbroken kept sender 0
of_nobody setup kept sender places past = record {
  each = λ j low high. absurd (omega (arith, low, high));
  gap = none_or (get kept (sender, 0 + 1)) (λ some. absurd (omega (arith, past, (places (sender, 0 + 1) some).sender)));
}

-- the numbers of all senders of a setup are those of all
pub all_counted : (setup : Lists) (kept : Kept) (counts : List ℕ) → HasPlaces setup kept → length counts ≡ length setup.senders → ((s : ℕ) → s < length setup.senders → IsUnbroken kept s (slice_index counts s)) → AreUnbroken kept (slice_index counts)
all_counted setup kept counts places size each = record {
  each = λ s. ⊎_elim (each s)
      (λ (past : length setup.senders ≤ s). subst (IsUnbroken kept s) (sym (get_or_past counts s 0 (omega (arith, past, size)))) (of_nobody setup kept s places past))
      (cases_lt s (length setup.senders));
}
