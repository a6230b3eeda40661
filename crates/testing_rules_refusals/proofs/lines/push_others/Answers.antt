use Rattle.std.proofs.Common.{arith, ◌≤◌, length}
use Rattle.std.proofs.lemmas.List.{take_all}
use Rattle.testing_rules_refusals.proofs.lines.push_others.Goals as goal

pub returns : goal.returns
returns c =
    let over : length c.args.alternatives.now ≤ c.loop-alternative.alternative-index = omega arith in
    rw (take_all c.loop-alternative.alternative-index c.args.alternatives.now over) at c.loop-alternative.invariant
