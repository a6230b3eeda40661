use Rattle.std.proofs.Common.{sym, ◌∙◌, subst}
use Rattle.testing_rules_live.specs.steps.LiveSources.{AreSlots}
use Rattle.testing_rules_live.proofs.LiveSlots.{put-over, put-before, slots-put}
use Rattle.testing_rules_live.proofs.live_sources.put_slot.Goals as goal

pub returns-in-Ok-clause-ok : goal.returns-in-Ok-clause-ok
returns-in-Ok-clause-ok c =
    let bound = rw c.deref.ensures.value at c.in-Ok.ensures.bound in
    let found = rw (c.deref.ensures.value, c.name.ensures) at c.in-Ok.ensures.found in
    sym (put-over c.args.slot c.args.slots.now.items c.in-Ok.place c.requires bound found)

pub returns-in-Ok-clause-ordered : goal.returns-in-Ok-clause-ordered
returns-in-Ok-clause-ordered c = subst AreSlots (sym (returns-in-Ok-clause-ok c)) (slots-put c.args.slot c.args.slots.now.items c.requires)

pub returns-in_ok-insert-in-Err-clause-ok : goal.returns-in_ok-insert-in-Err-clause-ok
returns-in_ok-insert-in-Err-clause-ok c =
    let bound = rw c.deref.ensures.value at c.in-Err.ensures.bound in
    let found = rw (c.deref.ensures.value, c.name.ensures) at c.in-Err.ensures.found in
    c.in_ok-insert-in-Err.ensures.items ∙ sym (put-before c.args.slot c.args.slots.now.items c.in-Err.place c.requires bound found)

pub returns-in_ok-insert-in-Err-clause-ordered : goal.returns-in_ok-insert-in-Err-clause-ordered
returns-in_ok-insert-in-Err-clause-ordered c = subst AreSlots (sym (returns-in_ok-insert-in-Err-clause-ok c)) (slots-put c.args.slot c.args.slots.now.items c.requires)
