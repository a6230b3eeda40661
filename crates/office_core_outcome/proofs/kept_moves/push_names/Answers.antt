use Rattle.std.proofs.Common.{arith, ◌≤◌, length}
use Rattle.std.proofs.lemmas.List.{take_all}
use Rattle.office_core_outcome.proofs.kept_moves.push_names.Goals as goal

pub returns : goal.returns
returns c =
    let over : length c.args.items.now ≤ c.loop-item.item-index = omega arith in
    rw (take_all c.loop-item.item-index c.args.items.now over) at c.loop-item.invariant
