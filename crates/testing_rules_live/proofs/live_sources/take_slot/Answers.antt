use Rattle.std.proofs.Common.{◌≡◌, sym, ap, ◌∙◌, subst}
use Rattle.std.specs.Prelude.{Bool, false, cond, not, get_or}
use Rattle.std.specs.List.{remove}
use Rattle.std.specs.Ordering.{is_eq}
use Rattle.std.specs.Str.{bytes_eq}
use Rattle.std.proofs.lemmas.Map.Text.{is_eq-slice_cmp}
use Rattle.testing_rules_live.specs.steps.LiveSources.{name_of, AreSlots}
use Rattle.testing_rules_live.specs.declared.live_sources.Slot.{Slot}
use Rattle.testing_rules_live.proofs.LiveSlots.{slots-left}
use Rattle.testing_rules_model.proofs.KeyOrder.{searchable}
use Rattle.testing_rules_facts.proofs.KeySlots.{kept-found, kept-missing}
use Rattle.testing_rules_model.proofs.Orders.{text_order}
use Rattle.testing_rules_live.proofs.live_sources.take_slot.Goals as goal

pub returns-in-Ok-clause-slots : goal.returns-in-Ok-clause-slots
returns-in-Ok-clause-slots c =
    let slots = c.args.slots.now.items in
    let name = c.args.name.now in
    let i = c.in-Ok.place in
    let keep : Slot → Bool = λ s. not (bytes_eq (name_of s) name) in
    let bound = rw c.deref.ensures.value at c.in-Ok.ensures.bound in
    let found = rw c.deref.ensures.value at c.in-Ok.ensures.found in
    let d = c.remove.result in
    let goes : keep (get_or slots i d) ≡ false = ap not (sym (is_eq-slice_cmp (name_of (get_or slots i d)) name) ∙ ap is_eq (found d)) in
    let kept = kept-found name_of text_order keep name (λ y e. ap not (sym (is_eq-slice_cmp (name_of y) name) ∙ e)) slots i d c.requires bound (found d) in
    c.remove.ensures.items ∙ sym (kept ∙ ap (λ b. cond b slots (remove slots i)) goes)

pub returns-in-Ok-clause-ordered : goal.returns-in-Ok-clause-ordered
returns-in-Ok-clause-ordered c = subst AreSlots (sym (returns-in-Ok-clause-slots c)) (slots-left c.args.name.now c.args.slots.now.items c.requires)

pub returns-in_default-clause-slots : goal.returns-in_default-clause-slots
returns-in_default-clause-slots c =
    let slots = c.args.slots.now.items in
    let name = c.args.name.now in
    let found = rw c.deref.ensures.value at c.in_default.ensures.found in
    sym (kept-missing name_of text_order (λ s. not (bytes_eq (name_of s) name)) name (λ y e. ap not (sym (is_eq-slice_cmp (name_of y) name) ∙ e)) slots c.in_default.field-0
    (found (searchable name_of text_order slots c.requires name)))
