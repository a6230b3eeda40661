use Rattle.std.proofs.Common.{arith, ◌≤◌, length}
use Rattle.std.proofs.lemmas.List.{take_all}
use Rattle.testing_rules_facts.proofs.build_blocks.copy_rows.Goals as goal

pub returns-clause-rows : goal.returns-clause-rows
returns-clause-rows c =
    let over : length c.args.rows.now ≤ c.loop-build.build-index = omega arith in
    rw (take_all c.loop-build.build-index c.args.rows.now over) at c.loop-build.invariant.so_far
