use Rattle.std.proofs.Common.{arith, ◌≤◌, length}
use Rattle.std.proofs.lemmas.List.{take_all}
use Rattle.testing_rules_excuses.proofs.reason_lines.push_origins.Goals as goal

pub returns : goal.returns
returns c =
    let over : length c.args.origins.now ≤ c.loop-origin.origin-index = omega arith in
    rw (take_all c.loop-origin.origin-index c.args.origins.now over) at c.loop-origin.invariant
