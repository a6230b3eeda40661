-- A slot for an element, and the list with the element at it.
use Rattle.std.specs.Prelude.{List}
use Rattle.std.proofs.Common.{◌≡◌, ◌∙◌, sym, arith, Box, Global}
use Rattle.testing_rules_facts.specs.declared.taken.Slot.{Slot}
use Rattle.testing_rules_facts.specs.declared.taken.Slot.TheVariants.{Over, Before, Nowhere}
use Rattle.testing_rules_facts.specs.steps.Slots.{IsSlotFor, IsSlotIn, slotted}
use Rattle.testing_rules_model.specs.Boxed.{unboxed}
use Rattle.testing_rules_model.proofs.Unboxed.{unboxed-set, unboxed-insert, unboxed-length}

module _ {A : Type 0} where
  pub slot_in : (xs : List A) (x : A) (put : List A) (s : Slot) → IsSlotFor xs x put s → IsSlotIn xs s
  slot_in xs x put (Over i) h = h.0
  slot_in xs x put (Before i) h = h.0
  slot_in xs x put Nowhere h = tt

  pub slotted_is : (xs : List A) (x : A) (put : List A) (s : Slot) → IsSlotFor xs x put s → slotted xs x s ≡ put
  slotted_is xs x put (Over i) h = sym h.1
  slotted_is xs x put (Before i) h = sym h.1
  slotted_is xs x put Nowhere h = sym h

  pub box_slot_in : (bs : List (Box A Global)) (x : A) (put : List A) (s : Slot) → IsSlotFor (unboxed bs) x put s → IsSlotIn bs s
  box_slot_in bs x put (Over i) h = omega (arith, unboxed-length bs, h.0)
  box_slot_in bs x put (Before i) h = omega (arith, unboxed-length bs, h.0)
  box_slot_in bs x put Nowhere h = tt

  pub box_slotted_is : (bs : List (Box A Global)) (b : Box A Global) (put : List A) (s : Slot) → IsSlotFor (unboxed bs) b.value put s → unboxed (slotted bs b s) ≡ put
  box_slotted_is bs b put (Over i) h = unboxed-set bs i b ∙ sym h.1
  box_slotted_is bs b put (Before i) h = unboxed-insert bs i b ∙ sym h.1
  box_slotted_is bs b put Nowhere h = sym h
