use Rattle.std.proofs.Common.{arith, ◌≤◌, length}
use Rattle.std.proofs.lemmas.List.{take_all}
use Rattle.testing_rules_refusals.proofs.living.coming_by.Goals as goal

pub returns : goal.returns
returns c =
    let rows = c.args.unstable.rows.now in
    let over : length rows ≤ c.loop-row.row-index = omega arith in
    rw (take_all c.loop-row.row-index rows over) at c.loop-row.invariant
