use Rattle.std.proofs.Common.{arith, ◌≤◌, length}
use Rattle.std.proofs.lemmas.List.{take_all}
use Rattle.testing_rules_refusals.proofs.living.rows_left.Goals as goal

pub returns : goal.returns
returns c =
    let over : length c.args.rows.now ≤ c.loop-row.row-index = omega arith in
    rw (take_all c.loop-row.row-index c.args.rows.now over) at c.loop-row.invariant
