use Rattle.std.proofs.Common.{arith, ◌≤◌, length, ap}
use Rattle.std.proofs.lemmas.List.{take_all}
use Rattle.testing_rules_refusals.proofs.providers.numbers_named.Goals as goal

pub returns : goal.returns
returns c =
    let long = ap length c.as_slice-alternative-items.ensures in
    let over : length c.args.clause.now ≤ c.loop-alternative.alternative-index = omega arith in
    rw (take_all c.loop-alternative.alternative-index c.args.clause.now over) at c.loop-alternative.invariant
