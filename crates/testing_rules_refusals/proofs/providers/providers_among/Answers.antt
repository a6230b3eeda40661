use Rattle.std.proofs.Common.{arith, ◌≤◌, length}
use Rattle.std.proofs.lemmas.List.{take_all}
use Rattle.testing_rules_refusals.proofs.providers.providers_among.Goals as goal

pub returns : goal.returns
returns c =
    let over : length c.args.numbers.now ≤ c.loop-number.number-index = omega arith in
    rw (take_all c.loop-number.number-index c.args.numbers.now over) at c.loop-number.invariant
