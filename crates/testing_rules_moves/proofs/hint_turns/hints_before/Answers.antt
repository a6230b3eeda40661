use Rattle.std.proofs.Common.{arith, ◌≤◌, length}
use Rattle.std.proofs.lemmas.List.{take_all}
use Rattle.testing_rules_moves.proofs.hint_turns.hints_before.Goals as goal

pub returns : goal.returns
returns c =
    let over : length c.args.hints.now ≤ c.loop-hint.hint-index = omega arith in
    rw (take_all c.loop-hint.hint-index c.args.hints.now over) at c.loop-hint.invariant
