use Rattle.std.proofs.Common.{arith, ◌≤◌, length}
use Rattle.std.proofs.lemmas.List.{take_all}
use Rattle.testing_rules_refusals.proofs.proof_text.push_other_reasons.Goals as goal

pub returns : goal.returns
returns c =
    let over : length c.args.reasons.now ≤ c.loop-reason.reason-index = omega arith in
    rw (take_all c.loop-reason.reason-index c.args.reasons.now over) at c.loop-reason.invariant
