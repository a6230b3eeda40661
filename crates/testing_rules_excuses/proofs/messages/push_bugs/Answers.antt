use Rattle.std.proofs.Common.{arith, ◌≤◌, length}
use Rattle.std.proofs.lemmas.List.{take_all}
use Rattle.testing_rules_excuses.proofs.messages.push_bugs.Goals as goal

pub returns : goal.returns
returns c =
    let over : length c.args.bugs.now ≤ c.loop-boxed.boxed-index = omega arith in
    rw (take_all c.loop-boxed.boxed-index c.args.bugs.now over) at c.loop-boxed.invariant
