-- The slot of an element in a list, and its effect on the facts' rows.
use Rattle.std.specs.Prelude.{◌≡◌, ◌<◌, ◌≤◌, List, length, slice_set}
use Rattle.std.specs.List.{insert}
use Rattle.std.specs.declared.cmp.Ordering.{Ordering}
use Rattle.testing_rules_facts.specs.declared.taken.Slot.{Slot}
use Rattle.testing_rules_facts.specs.declared.taken.Slot.TheVariants.{Over, Before, Nowhere}
use Rattle.testing_rules_facts.specs.declared.taken.Placement.{Placement}
use Rattle.testing_rules_facts.specs.steps.ElementShifts.{IsShift}
use Rattle.testing_rules_model.specs.WithMessage.{put_first}
use Rattle.testing_rules_model.specs.declared.fact_row.FactRow.{FactRow}

-- the list with the element has it in place of the one at this slot, or before it, or is unchanged
abbrev pub IsSlotFor : {A : Type 0} → List A → A → List A → Slot → Type 0
IsSlotFor xs x put (Over i) = (i < length xs) × (put ≡ slice_set xs i x)
IsSlotFor xs x put (Before i) = (i ≤ length xs) × (put ≡ insert xs i x)
IsSlotFor xs x put Nowhere = put ≡ xs

-- the slot is one of the list
abbrev pub IsSlotIn : {A : Type 0} → List A → Slot → Type 0
IsSlotIn xs (Over i) = i < length xs
IsSlotIn xs (Before i) = i ≤ length xs
IsSlotIn xs Nowhere = Unit {0}

-- the list with the element at the slot
abbrev pub slotted : {A : Type 0} → List A → A → Slot → List A
slotted xs x (Over i) = slice_set xs i x
slotted xs x (Before i) = insert xs i x
slotted xs x Nowhere = xs

-- the slot of one more element in a list by key, and its effect on the rows
pub record IsStep {A K : Type 0} (key : A → K) (cmp : K → K → Ordering) (rank : A → A → Ordering) (row : A → FactRow) (x : A) (xs : List A) (step : Placement) : Type 0 where
  pub slot : IsSlotFor xs x (put_first key cmp rank x xs) step.slot
  pub shift : IsShift key cmp rank row x xs step.shifted
