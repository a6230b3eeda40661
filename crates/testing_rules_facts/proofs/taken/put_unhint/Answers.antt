use Rattle.std.proofs.Common.{◌∙◌}
use Rattle.testing_rules_model.specs.WithMessage.{with_unhint}
use Rattle.testing_rules_facts.proofs.Slotting.{slot_in, slotted_is}
use Rattle.testing_rules_facts.proofs.taken.put_unhint.Goals as goal

pub put_at-requires-clause-slot : goal.put_at-requires-clause-slot
put_at-requires-clause-slot c =
    let xs = c.args.unhints.now.items in
    slot_in xs c.args.unhint (with_unhint c.args.unhint xs) c.slot_of_unhint-slot.result (rw c.deref.ensures.value at c.slot_of_unhint-slot.ensures)

pub returns : goal.returns
returns c =
    let xs = c.args.unhints.now.items in
    c.put_at.ensures.items ∙ slotted_is xs c.args.unhint (with_unhint c.args.unhint xs) c.slot_of_unhint-slot.result (rw c.deref.ensures.value at c.slot_of_unhint-slot.ensures)
