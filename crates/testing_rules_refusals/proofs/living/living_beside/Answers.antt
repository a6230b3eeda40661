use Rattle.std.proofs.Common.{arith, ◌≤◌, length}
use Rattle.std.proofs.lemmas.List.{take_all}
use Rattle.testing_rules_refusals.proofs.living.living_beside.Goals as goal

pub returns : goal.returns
returns c =
    let over : length c.args.excuses.now ≤ c.loop-excuse.excuse-index = omega arith in
    rw (take_all c.loop-excuse.excuse-index c.args.excuses.now over) at c.loop-excuse.invariant
