use Rattle.std.proofs.Common.{arith, ◌≤◌, length}
use Rattle.std.proofs.lemmas.List.{take_all}
use Rattle.office_core_outcome.proofs.hint_trials.freed_by.Goals as goal

pub returns : goal.returns
returns c =
    let over : length c.args.sources.now ≤ c.loop-source.source-index = omega arith in
    rw (take_all c.loop-source.source-index c.args.sources.now over) at c.loop-source.invariant
