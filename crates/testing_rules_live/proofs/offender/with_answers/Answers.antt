use Rattle.std.proofs.Common.{arith, append-nil}
use Rattle.testing_rules_suites.proofs.Failing.{with_answers-end}
use Rattle.testing_rules_live.proofs.offender.with_answers.Goals as goal

pub returns : goal.returns
returns c =
    let ended = with_answers-end c.args.rows.now c.args.marks.now c.loop-k.k (omega arith) in
    rw append-nil at (rw ended at c.loop-k.invariant)
