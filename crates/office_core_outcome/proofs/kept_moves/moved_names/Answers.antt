use Rattle.std.proofs.Common.{arith, ◌≤◌, length}
use Rattle.std.proofs.lemmas.List.{take_all}
use Rattle.office_core_outcome.proofs.kept_moves.moved_names.Goals as goal

pub returns : goal.returns
returns c =
    let over : length c.args.decisions.now ≤ c.loop-decision.decision-index = omega arith in
    rw (take_all c.loop-decision.decision-index c.args.decisions.now over) at c.loop-decision.invariant
