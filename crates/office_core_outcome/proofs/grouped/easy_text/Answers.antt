use Rattle.std.proofs.Common.{arith, ◌≤◌, ◌∙◌, length}
use Rattle.std.proofs.lemmas.List.{take_all}
use Rattle.office_core_outcome.proofs.grouped.easy_text.Goals as goal

pub returns : goal.returns
returns c =
    let over : length c.args.group.now ≤ c.loop-moved.moved-index = omega arith in
    c.from_string.ensures ∙ (rw (take_all c.loop-moved.moved-index c.args.group.now over) at c.loop-moved.invariant)
