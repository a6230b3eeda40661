use Rattle.std.proofs.Common.{arith, ◌≤◌, length}
use Rattle.std.proofs.lemmas.List.{take_all}
use Rattle.office_core_breaks.proofs.broken.failing.Goals as goal

pub returns : goal.returns
returns c =
    let over : length c.args.after.now ≤ c.loop-judged.judged-index = omega arith in
    rw (take_all c.loop-judged.judged-index c.args.after.now over) at c.loop-judged.invariant
