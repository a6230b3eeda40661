use Rattle.std.proofs.Common.{arith, ◌≤◌, length}
use Rattle.std.proofs.lemmas.List.{take_all}
use Rattle.testing_rules_facts.proofs.copies.copy_all.Goals as goal

pub returns : goal.returns
returns g c =
    let over : length c.args.values.now ≤ c.loop-value.value-index = omega arith in
    rw (take_all c.loop-value.value-index c.args.values.now over) at c.loop-value.invariant
