use Rattle.std.proofs.Common.{arith, ◌≤◌, length}
use Rattle.std.proofs.lemmas.List.{take_all}
use Rattle.testing_rules_refusals.proofs.proof_text.push_each_told.Goals as goal

pub returns : goal.returns
returns c =
    let over : length c.args.told.now ≤ c.loop-line.line-index = omega arith in
    rw (take_all c.loop-line.line-index c.args.told.now over) at c.loop-line.invariant
