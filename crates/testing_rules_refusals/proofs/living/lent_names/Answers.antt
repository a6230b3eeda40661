use Rattle.std.proofs.Common.{arith, ◌≤◌, length}
use Rattle.std.proofs.lemmas.List.{take_all}
use Rattle.testing_rules_refusals.proofs.living.lent_names.Goals as goal

pub returns : goal.returns
returns c =
    let over : length c.args.names.now ≤ c.loop-name.name-index = omega arith in
    rw (take_all c.loop-name.name-index c.args.names.now over) at c.loop-name.invariant
