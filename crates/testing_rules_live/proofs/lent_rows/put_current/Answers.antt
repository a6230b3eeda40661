use Rattle.std.proofs.Common.{arith, ◌≤◌, length}
use Rattle.std.proofs.lemmas.List.{take_all}
use Rattle.testing_rules_live.proofs.lent_rows.put_current.Goals as goal

pub returns-clause-ok : goal.returns-clause-ok
returns-clause-ok c =
    let over : length c.args.built.now ≤ c.loop-row.row-index = omega arith in
    rw (take_all c.loop-row.row-index c.args.built.now over) at c.loop-row.invariant.so_far
