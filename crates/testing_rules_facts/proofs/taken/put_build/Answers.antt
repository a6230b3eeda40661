use Rattle.std.proofs.Common.{◌∙◌}
use Rattle.testing_rules_model.specs.WithMessage.{with_build}
use Rattle.testing_rules_facts.proofs.Slotting.{slot_in, slotted_is}
use Rattle.testing_rules_facts.proofs.taken.put_build.Goals as goal

pub put_at-requires-clause-slot : goal.put_at-requires-clause-slot
put_at-requires-clause-slot c =
    let xs = c.args.rows.now.items in
    slot_in xs c.args.build (with_build c.args.build xs) c.step_of_build-step.result.slot (rw c.deref.ensures.value at c.step_of_build-step.ensures.slot)

pub returns-clause-items : goal.returns-clause-items
returns-clause-items c =
    let xs = c.args.rows.now.items in
    c.put_at.ensures.items ∙ slotted_is xs c.args.build (with_build c.args.build xs) c.step_of_build-step.result.slot (rw c.deref.ensures.value at c.step_of_build-step.ensures.slot)
