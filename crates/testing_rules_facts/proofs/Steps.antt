-- What one more element does to a list in the strict order of its keys, and to the facts' rows.
use Rattle.std.specs.Prelude.{ℕ, ◌<◌, ◌≤◌, true, false, List, Some, None, length, get_or, map, option_to_list, [], ◌∷◌}
use Rattle.std.proofs.Common.{◌≡◌, sym, ap, ◌∙◌, subst}
use Rattle.std.specs.List.Sorted.{IsStrictlySortedBy, IsPartitionPoint}
use Rattle.std.specs.Cmp.{IsTotalOrder}
use Rattle.std.specs.declared.cmp.Ordering.{Ordering}
use Rattle.std.specs.declared.cmp.Ordering.TheVariants.{Less, Equal, Greater}
use Rattle.std.specs.Ordering.{is_lt}
use Rattle.testing_rules_facts.specs.declared.taken.Slot.TheVariants.{Over, Before, Nowhere}
use Rattle.testing_rules_facts.specs.declared.taken.Placement.{Placement}
use Rattle.testing_rules_facts.specs.steps.Slots.{IsSlotFor, IsStep}
use Rattle.testing_rules_model.specs.WithMessage.{put_first}
use Rattle.testing_rules_model.specs.declared.fact_row.FactRow.{FactRow}
use Rattle.testing_rules_facts.proofs.KeySlots.{found-over, found-nowhere, found-before}
use Rattle.testing_rules_facts.proofs.KeyShifts.{way-at, come-at, none-at}

module _ {A K : Type 0} (key : A → K) {cmp : K → K → Ordering} (o : IsTotalOrder cmp) (rank : A → A → Ordering) (row : A → FactRow) (x : A) (xs : List A) where
  -- one of its key stands before it
  pub step-nowhere : (i : ℕ) (d : A) (step : Placement) → IsStrictlySortedBy cmp (map key xs) → i < length xs → cmp (key (get_or xs i d)) (key x) ≡ Equal
      → is_lt (rank (get_or xs i d) x) ≡ true → step.slot ≡ Nowhere → step.shifted.left ≡ None → step.shifted.came ≡ None → IsStep key cmp rank row x xs step
  step-nowhere i d step s h e f slot left came = record {
    slot = subst (IsSlotFor xs x (put_first key cmp rank x xs)) (sym slot) (found-nowhere key o rank x xs i d s h e f);
    shift = record {
      left = ap option_to_list left ∙ sym (ap (map row) (way-at key o rank x true xs i d s h e f));
      came = ap option_to_list came ∙ sym (ap (map row) (come-at key o rank x true xs i d s h e f));
    };
  }

  -- one of its key gives way
  pub step-over : (i : ℕ) (d : A) (left came : FactRow) → IsStrictlySortedBy cmp (map key xs) → i < length xs → cmp (key (get_or xs i d)) (key x) ≡ Equal
      → is_lt (rank (get_or xs i d) x) ≡ false → left ≡ row (get_or xs i d) → came ≡ row x
      → IsStep key cmp rank row x xs (record { slot = Over i; shifted = record { left = Some left; came = Some came } })
  step-over i d left came s h e f left_is came_is = record {
    slot = found-over key o rank x xs i d s h e f;
    shift = record {
      left = ap (λ r. r ∷ []) left_is ∙ sym (ap (map row) (way-at key o rank x false xs i d s h e f));
      came = ap (λ r. r ∷ []) came_is ∙ sym (ap (map row) (come-at key o rank x false xs i d s h e f));
    };
  }

  -- none is of its key
  pub step-before : (i : ℕ) (came : FactRow) → i ≤ length xs → IsPartitionPoint (λ y. cmp (key y) (key x) ≡ Less) (λ y. cmp (key y) (key x) ≡ Greater) xs i → came ≡ row x
      → IsStep key cmp rank row x xs (record { slot = Before i; shifted = record { left = None; came = Some came } })
  step-before i came h p came_is =
      let none = none-at key o rank x xs i p in
      record {
        slot = found-before key o rank x xs i h p;
        shift = record { left = sym (ap (map row) none.0); came = ap (λ r. r ∷ []) came_is ∙ sym (ap (map row) none.1) };
      }
