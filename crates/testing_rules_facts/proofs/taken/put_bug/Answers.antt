use Rattle.std.proofs.Common.{◌∙◌, ap}
use Rattle.testing_rules_model.specs.WithMessage.{with_bug}
use Rattle.testing_rules_model.specs.Boxed.{unboxed}
use Rattle.testing_rules_facts.proofs.Slotting.{box_slot_in, box_slotted_is}
use Rattle.testing_rules_facts.proofs.taken.put_bug.Goals as goal

pub put_at-requires-clause-slot : goal.put_at-requires-clause-slot
put_at-requires-clause-slot c =
    let xs = c.args.bugs.now.items in
    box_slot_in xs c.args.bug.value (with_bug c.args.bug.value (unboxed xs)) c.step_of_bug-step.result.slot (rw (c.deref.ensures.value, c.deref-2.ensures) at c.step_of_bug-step.ensures.slot)

pub returns-clause-items : goal.returns-clause-items
returns-clause-items c =
    let xs = c.args.bugs.now.items in
    ap unboxed c.put_at.ensures.items ∙ box_slotted_is xs c.args.bug (with_bug c.args.bug.value (unboxed xs)) c.step_of_bug-step.result.slot (rw (c.deref.ensures.value, c.deref-2.ensures) at c.step_of_bug-step.ensures.slot)
