use Rattle.std.proofs.Common.{◌∙◌}
use Rattle.testing_rules_model.specs.WithMessage.{with_hint}
use Rattle.testing_rules_facts.proofs.Slotting.{slot_in, slotted_is}
use Rattle.testing_rules_facts.proofs.taken.put_hint.Goals as goal

pub put_at-requires-clause-slot : goal.put_at-requires-clause-slot
put_at-requires-clause-slot c =
    let xs = c.args.hints.now.items in
    slot_in xs c.args.hint (with_hint c.args.hint xs) c.slot_of_hint-slot.result (rw c.deref.ensures.value at c.slot_of_hint-slot.ensures)

pub returns : goal.returns
returns c =
    let xs = c.args.hints.now.items in
    c.put_at.ensures.items ∙ slotted_is xs c.args.hint (with_hint c.args.hint xs) c.slot_of_hint-slot.result (rw c.deref.ensures.value at c.slot_of_hint-slot.ensures)
