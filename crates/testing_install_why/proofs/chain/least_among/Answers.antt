use Rattle.std.proofs.Common.{◌≤◌, length, arith}
use Rattle.std.proofs.lemmas.List.{get_or_default}
use Rattle.testing_install_why.proofs.Least.{least_all, least_less, least_none, least_stays}
use Rattle.testing_install_why.proofs.chain.least_among.Goals as goal
use Rattle.testing_install_why.proofs.chain.least_among.Goals.{then-is_provider, else-is_provider}

pub loop-number-init : goal.loop-number-init
loop-number-init c = least_none c.args.suite.now.rows c.args.order.now c.args.end c.args.clause.now c.args.numbers.now

pub loop-number-preserved : goal.loop-number-preserved
loop-number-preserved c =
    let rows = c.args.suite.now.rows in
    let order = c.args.order.now in
    let clause = c.args.clause.now in
    let numbers = c.args.numbers.now in
    let at = get_or_default numbers c.loop-number.number-index 0 _ c.loop-number-test.true in
    elim c.if-is_provider.branch [
      | then-is_provider w ↦ rw (w.least-is) (least_less rows order c.args.end clause numbers _ _ _ c.loop-number.invariant c.loop-number-test.true at (c.is_provider.ensures.provides_name w.if-is_provider.true))
      | else-is_provider w ↦ rw (w.least-is) (least_stays rows order c.args.end clause numbers _ _ _ c.loop-number.invariant c.loop-number-test.true at (c.is_provider.ensures.misses w.if-is_provider.false))
    ]

pub returns : goal.returns
returns c =
    let over : length c.args.numbers.now ≤ c.loop-number.number-index = omega arith in
    least_all c.args.suite.now.rows c.args.order.now c.args.end c.args.clause.now c.args.numbers.now _ c.loop-number.number-index c.loop-number.invariant over
